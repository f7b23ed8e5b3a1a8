use Rattle.std.proofs.Common.{arith}
use Rattle.demangle_cells.proofs.Blocks.{word_is}
use Rattle.demangle_cells.proofs.constants.word_id.Goals as goal

pub returns : goal.returns
returns c =
    λ F v h. word_is F v c.args.table c.number.result c.args.word c.number.ensures (omega (arith, c.ranges.word.fits)) h
