use Rattle.std.proofs.Common.{◌≤◌, ◌+◌, ◌*◌, inl, inr, drop, arith}
use Rattle.std.proofs.lemmas.Grind.{common_steps}
use Rattle.demangle_text.specs.Number.{run_of}
use Rattle.demangle_text.proofs.Digits.{value_of-grows, digits}
use Rattle.demangle_text.proofs.number.run_value.Goals as goal

pub returns-in_default-shifted : goal.returns-in_default-shifted
returns-in_default-shifted c =
    let h : 1 ≤ c.args.base = elim c.requires [ inl e ↦ omega arith | inr e ↦ omega arith ] in
    let k = value_of-grows c.args.base (c.loop-i.value * c.args.base + c.in-Some.digit) (run_of c.args.base (drop (c.loop-i.i + 1) c.args.bytes.now)) h in
    grind (arith, common_steps, digits, k)
