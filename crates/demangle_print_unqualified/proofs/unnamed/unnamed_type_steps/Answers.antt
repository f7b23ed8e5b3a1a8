use Rattle.demangle_printing.specs.Lines.{line_steps}
use Rattle.demangle_printing.specs.Print.{body}
use Rattle.demangle_meets.proofs.Acts.{meets_done, meets_text}
use Rattle.demangle_print_unqualified.proofs.unnamed.unnamed_type_steps.Goals as goal

pub returns : goal.returns
unfolding body line_steps
returns g c =
    λ p sc. meets_text c.text.ensures (meets_text (c.optional_ordinal.ensures p.refers)
    (meets_text c.text-2.ensures meets_done))
