use Rattle.std.proofs.Common.{refl}
use Rattle.demangle_printing.specs.Print.{body}
use Rattle.demangle_printing.specs.Lines.{line_steps}
use Rattle.demangle_meets.proofs.Acts.{meets_done}
use Rattle.demangle_meets.proofs.Parts.{meets_part, prints_deep, prints_node}
use Rattle.demangle_print_parts.proofs.identifiers.source_name.Goals as goal

pub returns-in_default : goal.returns-in_default
returns-in_default g c = λ sc. prints_deep refl c.in_default.ensures

pub returns : goal.returns
unfolding body line_steps
returns g c = λ sc. prints_node refl c.in-Some.ensures.0 (meets_part (c.identifier.ensures _) meets_done)
