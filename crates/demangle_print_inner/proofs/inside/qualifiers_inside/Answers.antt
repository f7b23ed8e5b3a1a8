use Rattle.demangle_printing.specs.Print.{body}
use Rattle.demangle_printing.specs.Lines.{inside_steps}
use Rattle.demangle_print_inner.proofs.inside.qualifiers_inside.Goals as goal

pub returns : goal.returns
unfolding body inside_steps
returns g c = λ sc. record { meets = c.qualifier_words.ensures _ }
