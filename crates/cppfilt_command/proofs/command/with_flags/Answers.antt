use Rattle.std.proofs.lemmas.Result.{IfOk-weaker}
use Rattle.cppfilt_command.proofs.Built.{added}
use Rattle.cppfilt_command.proofs.command.with_flags.Goals as goal

pub returns : goal.returns
returns c =
    let begun = c.in_ok-with_printing_flags.ensures in
    let one = added _ _ _ _ _ c.in_ok-arg.ensures begun c.flag.ensures.local c.flag.ensures.rule in
    IfOk-weaker c.arg-2.result _ _
    (λ made adds. added _ made _ _ _ adds one c.flag-2.ensures.local c.flag-2.ensures.rule) c.arg-2.ensures
