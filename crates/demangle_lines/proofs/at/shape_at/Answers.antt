use Rattle.std.proofs.Common.{Some, length}
use Rattle.demangle_printing.specs.Rules.{of_part}
use Rattle.demangle_printing.specs.Trees.{look_in, with_table}
use Rattle.demangle_printing.specs.World.{nth, parts_seen}
use Rattle.demangle_lines.specs.Shapes.{shape_in}
use Rattle.demangle_lines.proofs.Places.{at_table}
use Rattle.demangle_lines.proofs.at.shape_at.Goals as goal

pub returns : goal.returns
returns g c = at_table (λ t. shape_in (look_in t (g.B.Below.at c.args.below).refers.input (g.T.InnerNode.tree c.args.tree))) c.subs.ensures (c.shape.ensures _)
