use Rattle.std.proofs.Common.{refl}
use Rattle.std.proofs.lemmas.Result.{IfOk-weaker}
use Rattle.cppfilt_command.proofs.Built.{added}
use Rattle.cppfilt_command.proofs.command.with_printing_flags.Goals as goal

pub returns : goal.returns
returns c =
    let one = added _ _ _ _ _ c.in_ok-arg.ensures refl c.flag.ensures.local c.flag.ensures.rule in
    let two = added _ _ _ _ _ c.in_ok-arg-2.ensures one c.flag-2.ensures.local c.flag-2.ensures.rule in
    IfOk-weaker c.arg-3.result _ _
    (λ made adds. added _ made _ _ _ adds two c.flag-3.ensures.local c.flag-3.ensures.rule) c.arg-3.ensures
