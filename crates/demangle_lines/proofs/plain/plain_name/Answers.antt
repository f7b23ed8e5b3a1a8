use Rattle.std.proofs.Common.{Some, subst, sym}
use Rattle.demangle_core.specs.Core.{Core, Tag}
use Rattle.demangle_printing.specs.Lines.{line_steps}
use Rattle.demangle_meets.proofs.Acts.{meets_block, meets_done}
use Rattle.demangle_meets.proofs.Events.{meets_event}
use Rattle.demangle_context.specs.PageOf.{page}
use Rattle.demangle_lines.specs.Does.{Runs}
use Rattle.demangle_lines.specs.Known.{plain_name}
use Rattle.demangle_lines.proofs.plain.plain_name.Goals as goal

pub returns : goal.returns
unfolding line_steps
returns g c = λ x sc h.
    subst (λ y. Runs (g.B.Below.at c.args.below) (page g.T.InnerNode.tree g.T.RefersTo.table g.W.DemangleWrite.seen
    c.args.ctx.now) (page g.T.InnerNode.tree g.T.RefersTo.table g.W.DemangleWrite.seen c.end_node.new.self) y sc
    (line_steps Tag.UnqualifiedNameSource)) (sym h.is) (record {
      meets = meets_event c.begin_node-told.ensures (meets_block (c.source_line.ensures h.start h.stop sc h.here)
          (meets_block (c.no_tags_line.ensures sc) meets_done)) c.end_node.ensures meets_done;
    })
