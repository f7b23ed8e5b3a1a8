use Rattle.demangle_print.proofs.Begun.{demangled}
use Rattle.demangle_print.proofs.names.UnscopedTemplateNameHandleDemangle.demangle.Goals as goal

pub returns : goal.returns
returns g c = demangled c.begin-printer.ensures c.unscoped_template_name_handle.ensures c.answer.ensures
