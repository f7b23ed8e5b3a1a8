use Rattle.demangle_decimal.proofs.Lengths.{are_ascii}
use Rattle.demangle_decimal.proofs.Decimal.unsigned.Goals as goal

pub text_from-requires-clause-ascii : goal.text_from-requires-clause-ascii
text_from-requires-clause-ascii c = rw c.write_digits-start.ensures.digits (are_ascii c.args.n c.ranges.n.fits)
