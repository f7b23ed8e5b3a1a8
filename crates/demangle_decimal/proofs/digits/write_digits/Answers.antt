use Rattle.std.proofs.Common.{◌≡◌, ◌+◌, ◌-◌, ◌%◌, refl, arith, append-nil, append_assoc}
use Rattle.std.proofs.lemmas.Fmt.{decimal_digit, decimal_step_wide}
use Rattle.std.proofs.lemmas.List.{drop-set, drop_all, length-set}
use Rattle.demangle_decimal.proofs.Lengths.{at_most, one_digit, one_more}
use Rattle.demangle_decimal.proofs.digits.write_digits.Goals as goal

pub loop-left-init : goal.loop-left-init
loop-left-init c =
    (omega arith, omega arith, refl, rw (drop_all 40 c.args.bytes.now (omega arith), append-nil))

pub overflow_sub-at : goal.overflow_sub-at
overflow_sub-at c =
    omega (
      arith,
      at_most c.args.n c.ranges.n.fits,
      one_more c.loop-left.left c.loop-left-test.true c.loop-left.auto.left-fits.fits,
    )

pub loop-left-preserved : goal.loop-left-preserved
loop-left-preserved c =
    let l = c.loop-left in
    let most = at_most c.args.n c.ranges.n.fits in
    let more = one_more l.left c.loop-left-test.true l.auto.left-fits.fits in
    let same : l.at - 1 + 1 ≡ l.at = omega arith in (
      omega arith,
      omega (arith, length-set l.bytes (l.at - 1) (48 + l.left % 10)),
      omega arith,
      rw (drop-set l.bytes (l.at - 1) _ (omega arith), same)
          (rw (decimal_step_wide l.left c.loop-left-test.true (omega (arith, l.auto.left-fits.fits)), append_assoc)
          at l.invariant.3),
    )

pub overflow_sub-at-2 : goal.overflow_sub-at-2
overflow_sub-at-2 c =
    omega (arith, at_most c.args.n c.ranges.n.fits, one_digit c.loop-left.left c.loop-left-test.false)

pub returns-clause-start : goal.returns-clause-start
returns-clause-start c =
    omega (arith, at_most c.args.n c.ranges.n.fits, one_digit c.loop-left.left c.loop-left-test.false)

pub returns-clause-digits : goal.returns-clause-digits
returns-clause-digits c =
    let l = c.loop-left in
    let most = at_most c.args.n c.ranges.n.fits in
    let one = one_digit l.left c.loop-left-test.false in
    let same : l.at - 1 + 1 ≡ l.at = omega arith in
    rw (drop-set l.bytes (l.at - 1) _ (omega arith), same)
    (rw (decimal_digit l.left c.loop-left-test.false) at l.invariant.3)
