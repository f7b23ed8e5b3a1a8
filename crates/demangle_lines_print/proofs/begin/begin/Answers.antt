use Rattle.std.proofs.Common.{refl, ◌∙◌, ap}
use Rattle.demangle_context.specs.PageOf.{page, page_of}
use Rattle.demangle_lines_print.proofs.Begins.{begins_at, is_below}
use Rattle.demangle_lines_print.proofs.begin.begin.Goals as goal

pub returns : goal.returns
unfolding page
returns g c =
    record {
      page = ap (page_of g.T.RefersTo.table) c.start.ensures;
      place =
          begins_at _ (page g.T.InnerNode.tree g.T.RefersTo.table g.W.DemangleWrite.seen c.args.ctx.now).fixed
          c.requires.refers (c.recursion_level.ensures.value ∙ ap (λ v. v.items.level) c.start.ensures)
          c.requires.deepest;
      below = is_below _ c.recursion_level.ensures.value c.recursion_level.ensures.below c.start.ensures;
      reserved = refl;
      law = c.prints_declared.ensures.trees;
    }
