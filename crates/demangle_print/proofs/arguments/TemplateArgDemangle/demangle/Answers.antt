use Rattle.demangle_print.proofs.Begun.{demangled}
use Rattle.demangle_print.proofs.arguments.TemplateArgDemangle.demangle.Goals as goal

pub returns : goal.returns
returns g c = demangled c.begin-printer.ensures c.template_arg.ensures c.answer.ensures
