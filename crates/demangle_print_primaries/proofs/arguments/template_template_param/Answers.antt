use Rattle.std.proofs.Common.{refl}
use Rattle.demangle_meets.proofs.Parts.{prints_deep, prints_line}
use Rattle.demangle_print_primaries.proofs.arguments.template_template_param.Goals as goal

pub returns-in_default : goal.returns-in_default
returns-in_default g c = prints_deep refl c.in_default.ensures

pub returns : goal.returns
returns g c = prints_line refl c.in-Some.ensures.0 c.template_template_param_steps.ensures
