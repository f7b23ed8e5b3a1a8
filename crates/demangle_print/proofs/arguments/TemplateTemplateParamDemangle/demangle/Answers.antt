use Rattle.demangle_print.proofs.Begun.{demangled}
use Rattle.demangle_print.proofs.arguments.TemplateTemplateParamDemangle.demangle.Goals as goal

pub returns : goal.returns
returns g c = demangled c.begin-printer.ensures c.template_template_param.ensures c.answer.ensures
