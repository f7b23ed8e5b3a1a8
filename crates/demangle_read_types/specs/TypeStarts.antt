-- With which alternative a type is begun, as the form of its row.
use Rattle.demangle_forms.specs.Starts as form
use Rattle.demangle_read_types.specs.declared.first_bytes.TypeStart.{TypeStart}
use Rattle.demangle_read_types.specs.declared.first_bytes.TypeStart.TheVariants as of_start

abbrev pub form_of_start : TypeStart → form.TypeStart
form_of_start of_start.All = form.TypeStart.all
form_of_start of_start.Qualified = form.TypeStart.qualified
form_of_start of_start.Names = form.TypeStart.names
form_of_start of_start.Substitutions = form.TypeStart.references
form_of_start of_start.Functions = form.TypeStart.functions
form_of_start of_start.Shapes = form.TypeStart.shapes
form_of_start of_start.Templates = form.TypeStart.templates
form_of_start of_start.Marks = form.TypeStart.marks
