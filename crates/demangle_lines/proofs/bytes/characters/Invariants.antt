use Rattle.std.proofs.Common.{length}
use Rattle.demangle_printing.specs.Reader.{texts}
use Rattle.demangle_printing.specs.Texts.{characters}
use Rattle.demangle_meets.specs.Meets.{Remains}
use Rattle.demangle_meets.specs.Place.{Place}
use Rattle.demangle_context.specs.PageOf.{page}
use Rattle.demangle_lines.proofs.bytes.characters.Given as goal

abbrev pub invariant-loop-rest : goal.invariant-loop-rest
invariant-loop-rest g l =
    (p : Place) → Remains p (page g.T.InnerNode.tree g.T.RefersTo.table g.W.DemangleWrite.seen l.fn.ctx) (page g.T.InnerNode.tree g.T.RefersTo.table g.W.DemangleWrite.seen l.ctx)
    (texts (characters l.fn.bytes)) (texts (characters l.rest))

abbrev pub decreases-loop-rest : goal.decreases-loop-rest
decreases-loop-rest g l = length l.rest
