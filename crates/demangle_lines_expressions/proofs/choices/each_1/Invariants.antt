use Rattle.std.proofs.Common.{option_map, drop}
use Rattle.demangle_printing.specs.World.{listed}
use Rattle.demangle_meets.specs.Meets.{Remains}
use Rattle.demangle_meets.specs.Place.{world_of}
use Rattle.demangle_context.specs.PageOf.{page}
use Rattle.demangle_lines.specs.Pieces.{each_of}
use Rattle.demangle_lines.specs.ScopeOf.{lent_scope}
use Rattle.demangle_lines_expressions.specs.Choices.{each_1_steps}
use Rattle.demangle_lines_expressions.proofs.choices.each_1.Given as goal

abbrev pub invariant-loop-number : goal.invariant-loop-number
invariant-loop-number g l = Remains (g.B.Below.at l.below) (page g.T.InnerNode.tree g.T.RefersTo.table
    g.W.DemangleWrite.seen l.fn.ctx) (page g.T.InnerNode.tree g.T.RefersTo.table g.W.DemangleWrite.seen l.ctx)
    (each_of (world_of (g.B.Below.at l.below).refers) each_1_steps (listed (world_of (g.B.Below.at l.below).refers)
    (option_map g.T.InnerNode.tree l.list)) (lent_scope g.T.InnerNode.tree l.scope)) (each_of (world_of (g.B.Below.at
    l.below).refers) each_1_steps (drop l.number (listed (world_of (g.B.Below.at l.below).refers) (option_map
    g.T.InnerNode.tree l.list))) (lent_scope g.T.InnerNode.tree l.scope))
