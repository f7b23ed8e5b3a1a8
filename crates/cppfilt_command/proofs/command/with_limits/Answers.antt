use Rattle.std.proofs.Common.{refl}
use Rattle.std.proofs.lemmas.Result.{IfOk-weaker}
use Rattle.cppfilt_command.proofs.Built.{added}
use Rattle.cppfilt_command.proofs.command.with_limits.Goals as goal

pub returns : goal.returns
returns c =
    let one = added _ _ _ _ _ c.in_ok-arg.ensures refl c.number.ensures.local c.number.ensures.rule in
    let two = added _ _ _ _ _ c.in_ok-arg-2.ensures one c.number-2.ensures.local c.number-2.ensures.rule in
    IfOk-weaker c.arg-3.result _ _
    (λ made adds. added _ made _ _ _ adds two c.number-3.ensures.local c.number-3.ensures.rule) c.arg-3.ensures
