use Rattle.std.proofs.Common.{refl}
use Rattle.demangle_printing.specs.Print.{body}
use Rattle.demangle_meets.proofs.Acts.{meets_done}
use Rattle.demangle_meets.proofs.Lines.{meets_said}
use Rattle.demangle_meets.proofs.Parts.{prints_deep, prints_node}
use Rattle.demangle_print_parts.proofs.qualifiers.explicit_object_parameter.Goals as goal

pub returns-in_default : goal.returns-in_default
returns-in_default g c = λ sc. prints_deep refl c.in_default.ensures

pub returns : goal.returns
unfolding body
returns g c =
    λ sc. prints_node refl c.in-Some.ensures.0
    (meets_said (rw c.text.ensures at c.text-2.ensures) meets_done)
