use Rattle.demangle_print.proofs.Begun.{demangled_args}
use Rattle.demangle_print.proofs.demangle.demangle_args.Goals as goal

pub returns : goal.returns
returns g c = demangled_args c.begin-printer.ensures c.parameters.ensures c.answer.ensures
