use Rattle.std.proofs.Common.{refl}
use Rattle.demangle_printing.specs.Lines.{line_steps}
use Rattle.demangle_printing.specs.Print.{body}
use Rattle.demangle_meets.proofs.Acts.{meets_done}
use Rattle.demangle_meets.proofs.Events.{meets_event}
use Rattle.demangle_meets.proofs.Parts.{meets_part, prints_deep, prints_node}
use Rattle.demangle_print_names.proofs.prefixes.data_member_prefix.Goals as goal

pub returns-in_default : goal.returns-in_default
returns-in_default g c = λ sc. prints_deep refl c.in_default.ensures

pub returns : goal.returns
unfolding body line_steps
returns g c =
    λ sc. prints_node refl c.in-Some.ensures.0
    (meets_event c.begin_node-told.ensures (meets_part (c.source_name.ensures sc) meets_done) c.end_node.ensures
    meets_done)
