use Rattle.std.proofs.Common.{refl}
use Rattle.demangle_nodes.proofs.Parts.{simple_id_read}
use Rattle.demangle_printing.specs.Print.{body}
use Rattle.demangle_printing.specs.Lines.{line_steps}
use Rattle.demangle_meets.proofs.Acts.{meets_done}
use Rattle.demangle_meets.proofs.Parts.{meets_part, prints_deep, prints_node}
use Rattle.demangle_print_primaries.proofs.Itself.{simple_id_is_itself}
use Rattle.demangle_print_primaries.proofs.unresolved.simple_id.Goals as goal

pub returns-in_default : goal.returns-in_default
returns-in_default g c = prints_deep (simple_id_is_itself _ c.args.node.now) c.in_default.ensures

pub returns : goal.returns
unfolding body line_steps
returns g c =
    rw (simple_id_read c.args.node.now) (prints_node refl c.in-Some.ensures.0 (meets_part (c.source_name.ensures _)
    (meets_part c.optional_template_args.ensures meets_done)))
