-- With which alternative a name without its scope is begun, as the form of its row.
use Rattle.demangle_forms.specs.Starts as form
use Rattle.demangle_read_unqualified.specs.declared.first_bytes.UnqualifiedStart.{UnqualifiedStart}
use Rattle.demangle_read_unqualified.specs.declared.first_bytes.UnqualifiedStart.TheVariants as of_start

abbrev pub form_of_start : UnqualifiedStart → form.UnqualifiedStart
form_of_start of_start.All = form.UnqualifiedStart.all
form_of_start of_start.Constructors = form.UnqualifiedStart.constructors
form_of_start of_start.Sources = form.UnqualifiedStart.sources
form_of_start of_start.Unnamed = form.UnqualifiedStart.unnamed
