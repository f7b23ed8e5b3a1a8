use Rattle.std.proofs.Common.{arith}
use Rattle.demangle_cells.proofs.Blocks.{operator_is}
use Rattle.demangle_cells.proofs.constants.operator_id.Goals as goal

pub returns : goal.returns
returns c = λ F v h. operator_is F v c.args.word (omega (arith, c.ranges.word.fits)) h
