use Rattle.std.proofs.Common.{inr}
use Rattle.demangle_parts_text.proofs.divide.scope_of_template.Goals as goal

pub returns-in-None-arguments : goal.returns-in-None-arguments
returns-in-None-arguments c =
    inr (record { behind = c.in-Some.behind; left = c.in-Some.ensures; others = c.in-None-arguments.ensures })
