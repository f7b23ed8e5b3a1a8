use Rattle.std.proofs.Common.{refl}
use Rattle.demangle_printing.specs.Lines.{line_steps}
use Rattle.demangle_printing.specs.Print.{body}
use Rattle.demangle_meets.proofs.Acts.{meets_done, meets_text}
use Rattle.demangle_meets.proofs.Parts.{meets_part, prints_deep, prints_node}
use Rattle.demangle_print_unqualified.proofs.unqualified.abi_tag.Goals as goal

pub returns-in_default : goal.returns-in_default
returns-in_default g c = λ sc. prints_deep refl c.in_default.ensures

pub returns : goal.returns
unfolding body line_steps
returns g c =
    λ sc. prints_node refl c.in-Some.ensures.0
    (meets_text c.text.ensures (meets_part (c.source_name.ensures sc) (meets_text c.text-2.ensures meets_done)))
