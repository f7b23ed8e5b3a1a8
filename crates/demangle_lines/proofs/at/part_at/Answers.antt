use Rattle.std.proofs.Common.{Some, length}
use Rattle.demangle_printing.specs.Rules.{of_part}
use Rattle.demangle_printing.specs.Trees.{look_in, with_table}
use Rattle.demangle_printing.specs.World.{nth, parts_seen}
use Rattle.demangle_lines.specs.Shapes.{shape_in}
use Rattle.demangle_lines.proofs.Places.{at_table}
use Rattle.demangle_lines.proofs.at.part_at.Goals as goal

pub returns : goal.returns
returns g c = at_table (λ t. nth c.args.number (parts_seen (look_in t (g.B.Below.at c.args.below).refers.input (g.T.InnerNode.tree c.args.tree)))) c.subs.ensures (c.part.ensures _)
