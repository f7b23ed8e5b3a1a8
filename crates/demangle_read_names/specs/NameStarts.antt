-- With which alternative a name is begun, as the form of its row.
use Rattle.demangle_forms.specs.Starts as form
use Rattle.demangle_read_names.specs.declared.first_bytes.NameStart.{NameStart}
use Rattle.demangle_read_names.specs.declared.first_bytes.NameStart.TheVariants as of_start

abbrev pub form_of_start : NameStart → form.NameStart
form_of_start of_start.All = form.NameStart.all
form_of_start of_start.Templates = form.NameStart.templates
form_of_start of_start.Locals = form.NameStart.locals
