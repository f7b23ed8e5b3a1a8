use Rattle.demangle_print.proofs.Begun.{demangled}
use Rattle.demangle_print.proofs.words.ExplicitObjectParameterDemangle.demangle.Goals as goal

pub returns : goal.returns
returns g c = demangled c.begin-printer.ensures (c.explicit_object_parameter.ensures _) c.answer.ensures
