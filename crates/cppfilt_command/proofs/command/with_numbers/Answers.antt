use Rattle.std.proofs.lemmas.Result.{IfOk-weaker}
use Rattle.cppfilt_command.proofs.Built.{added}
use Rattle.cppfilt_command.proofs.command.with_numbers.Goals as goal

pub returns : goal.returns
returns c =
    let begun = c.in_ok-with_limits.ensures in
    IfOk-weaker c.arg.result _ _
    (λ made adds. added _ made _ _ _ adds begun c.number.ensures.local c.number.ensures.rule) c.arg.ensures
