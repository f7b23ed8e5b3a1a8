use Rattle.std.proofs.Common.{◌≡◌, ◌+◌, ◌-◌, ◌∙◌, arith, to_z-of_z}
use Rattle.std.proofs.lemmas.List.{drop-set}
use Rattle.demangle_decimal.proofs.Lengths.{a_sign, are_ascii, at_most, sign_is_ascii}
use Rattle.demangle_decimal.proofs.Decimal.signed.Goals as goal

pub text_from-requires-clause-ascii : goal.text_from-requires-clause-ascii
text_from-requires-clause-ascii c =
    rw c.write_digits-start.ensures.digits (are_ascii c.unsigned_abs.result (omega arith))

pub overflow_sub-self : goal.overflow_sub-self
overflow_sub-self c = omega (arith, at_most c.unsigned_abs.result (omega arith))

pub overflow_sub-start : goal.overflow_sub-start
overflow_sub-start c = omega (arith, at_most c.unsigned_abs.result (omega arith))

pub text_from-requires-2-clause-ascii : goal.text_from-requires-2-clause-ascii
text_from-requires-2-clause-ascii c =
    let w = c.write_digits-start in
    let most = at_most c.unsigned_abs.result (omega arith) in
    let same : w.result - 1 + 1 ≡ w.result = omega arith in
    rw (drop-set w.new.bytes (w.result - 1) 45 (omega arith), same, w.ensures.digits)
    (sign_is_ascii c.unsigned_abs.result (omega arith))

pub returns : goal.returns
returns c =
    let w = c.write_digits-start in
    let most = at_most c.unsigned_abs.result (omega arith) in
    let same : w.result - 1 + 1 ≡ w.result = omega arith in
    let back = to_z-of_z c.ranges.n in
    c.text_from-2.ensures
    ∙ rw
    (drop-set w.new.bytes (w.result - 1) 45 (omega arith), same, w.ensures.digits, c.unsigned_abs.ensures.value, back)
    (a_sign c.args.n (rw back at c.if-n-ge0.false))
