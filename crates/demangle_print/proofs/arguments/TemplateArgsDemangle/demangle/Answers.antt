use Rattle.demangle_print.proofs.Begun.{demangled}
use Rattle.demangle_print.proofs.arguments.TemplateArgsDemangle.demangle.Goals as goal

pub returns : goal.returns
returns g c = demangled c.begin-printer.ensures c.template_args.ensures c.answer.ensures
