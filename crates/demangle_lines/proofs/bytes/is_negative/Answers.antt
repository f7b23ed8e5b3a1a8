use Rattle.demangle_lines.proofs.Signs.{no_sign_there, sign_there}
use Rattle.demangle_lines.proofs.bytes.is_negative.Goals as goal

pub returns-in-Some : goal.returns-in-Some
returns-in-Some c = sign_there c.args.bytes.now _ _ c.in-Some.ensures.cases

pub returns-in-None : goal.returns-in-None
returns-in-None c = no_sign_there c.args.bytes.now c.in-None.ensures.cases
