use Rattle.std.proofs.Common.{refl}
use Rattle.demangle_nodes.proofs.Parts.{unresolved_qualifier_level_read}
use Rattle.demangle_printing.specs.Print.{body}
use Rattle.demangle_printing.specs.Lines.{line_steps}
use Rattle.demangle_meets.proofs.Acts.{meets_done}
use Rattle.demangle_meets.proofs.Parts.{meets_part, prints_deep, prints_node}
use Rattle.demangle_print_primaries.proofs.Itself.{level_is_itself}
use Rattle.demangle_print_primaries.proofs.unresolved.unresolved_qualifier_level.Goals as goal

pub returns-in_default : goal.returns-in_default
returns-in_default g c = prints_deep (level_is_itself _ c.args.node.now) c.in_default.ensures

pub returns : goal.returns
unfolding body line_steps
returns g c =
    rw (unresolved_qualifier_level_read c.args.node.now) (prints_node refl c.in-Some.ensures.0 (meets_part
    c.simple_id.ensures meets_done))
