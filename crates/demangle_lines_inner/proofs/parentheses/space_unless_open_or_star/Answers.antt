use Rattle.std.proofs.Common.{◌||◌, false, sym, ◌∙◌}
use Rattle.demangle_printing.specs.State.{is_byte}
use Rattle.demangle_printing.specs.Parameters.{space_unless}
use Rattle.demangle_meets.specs.Place.{world_of}
use Rattle.demangle_meets.proofs.Acts.{meets_done, meets_space}
use Rattle.demangle_meets.proofs.Parts.{meets_at}
use Rattle.demangle_context.specs.PageOf.{page}
use Rattle.demangle_lines_inner.proofs.parentheses.space_unless_open_or_star.Goals as goal

pub returns-then-last_is : goal.returns-then-last_is
returns-then-last_is g c = λ p.
    meets_at (λ v. space_unless (world_of p.refers) (v || is_byte 42 (page g.T.InnerNode.tree g.T.RefersTo.table g.W.DemangleWrite.seen c.args.ctx.now).last))
    (sym c.if-last_is.true ∙ c.last_is.ensures) meets_done

pub returns-then-last_is-2 : goal.returns-then-last_is-2
returns-then-last_is-2 g c = λ p.
    meets_at (λ v. space_unless (world_of p.refers) (v || is_byte 42 (page g.T.InnerNode.tree g.T.RefersTo.table g.W.DemangleWrite.seen c.args.ctx.now).last))
    (sym c.if-last_is.false ∙ c.last_is.ensures)
    (meets_at (λ v. space_unless (world_of p.refers) (false || v)) (sym c.if-last_is-2.true ∙ c.last_is-2.ensures)
    meets_done)

pub returns : goal.returns
returns g c = λ p.
    meets_at (λ v. space_unless (world_of p.refers) (v || is_byte 42 (page g.T.InnerNode.tree g.T.RefersTo.table g.W.DemangleWrite.seen c.args.ctx.now).last))
    (sym c.if-last_is.false ∙ c.last_is.ensures)
    (meets_at (λ v. space_unless (world_of p.refers) (false || v)) (sym c.if-last_is-2.false ∙ c.last_is-2.ensures)
    (meets_space c.space.ensures meets_done))
