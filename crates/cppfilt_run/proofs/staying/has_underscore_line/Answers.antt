use Rattle.std.proofs.Common.{◌≡◌, arith, sym, ap, not, ◌∙◌, take}
use Rattle.std.proofs.lemmas.Grind.{common_steps}
use Rattle.cppfilt_run.specs.Staying.{stays_behind}
use Rattle.cppfilt_run.proofs.StayLaws.{behind-one, seen-next}
use Rattle.cppfilt_run.proofs.staying.has_underscore_line.Goals as goal

pub loop-i-init : goal.loop-i-init
loop-i-init c = (omega arith, ap not (sym (behind-one c.args.bytes.now)))

pub loop-i-preserved : goal.loop-i-preserved
loop-i-preserved c =
    let inv = c.loop-i.invariant in
    (omega arith, seen-next c.args.bytes.now c.loop-i.i c.loop-i.seen inv.0 c.loop-i-test.true inv.1)

pub returns : goal.returns
returns c =
    let bytes = c.args.bytes.now in
    let past = c.loop-i-test.false in
    let whole : take c.loop-i.i bytes ≡ bytes = grind (arith, common_steps) in
    c.loop-i.invariant.1 ∙ ap (λ l. not (stays_behind l)) whole
