use Rattle.std.proofs.Common.{◌≡◌, ◌-◌, length, drop, length-drop, subst, arith}
use Rattle.std.proofs.lemmas.Grind.{common_steps}
use Rattle.std.proofs.lemmas.List.{take_all}
use Rattle.demangle_text.specs.Characters.{identifier_len}
use Rattle.demangle_text.proofs.Runs.{turn}
use Rattle.demangle_text.proofs.identifier.identifier_len.Goals as goal

pub loop-count-preserved : goal.loop-count-preserved
loop-count-preserved c =
    let bs = c.args.bytes.now in
    let i = c.loop-count.count in
    let t = turn bs i c.part_len-len.result (grind (arith, common_steps, c.part_len-len.ensures.goes_on)) in
    grind (arith, common_steps, t, c.part_len-len.ensures.inside, length-drop i bs)

pub returns-then-len-eq0-clause-value : goal.returns-then-len-eq0-clause-value
returns-then-len-eq0-clause-value c =
    let bs = c.args.bytes.now in
    let i = c.loop-count.count in
    let whole = take_all (length bs - i) (drop i bs) (omega (arith, length-drop i bs)) in
    let none = subst (λ xs. identifier_len xs ≡ 0) whole (c.part_len-len.ensures.ends c.if-len-eq0.true) in
    omega (arith, none, c.loop-count.invariant.0)
