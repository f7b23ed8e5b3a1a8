use Rattle.std.proofs.Common.{arith}
use Rattle.demangle_cells.proofs.Blocks.{tags_cell}
use Rattle.demangle_cells.proofs.constant_cells.single_cell.Goals as goal

pub returns-in-5-to-7-clause-cell : goal.returns-in-5-to-7-clause-cell
returns-in-5-to-7-clause-cell c = λ F v h. tags_cell F v c.args.number (omega arith) (omega arith) h
