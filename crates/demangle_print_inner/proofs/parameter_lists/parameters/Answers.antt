use Rattle.demangle_printing.specs.Print.{body}
use Rattle.demangle_meets.proofs.Parts.{meets_deep, meets_line}
use Rattle.demangle_print_inner.proofs.parameter_lists.parameters.Goals as goal

pub returns-in_default : goal.returns-in_default
returns-in_default g c = meets_deep c.in_default.ensures

pub returns : goal.returns
unfolding body
returns g c = meets_line c.in-Some.ensures.0 c.parameters_steps.ensures
