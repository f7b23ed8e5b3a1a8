use Rattle.std.proofs.Common.{refl, sym}
use Rattle.demangle_nodes.specs.TreeNodes.{tree_of_expression}
use Rattle.demangle_entries.specs.TreeEntries.{tree_of_exception_spec}
use Rattle.demangle_printing.specs.Print.{body}
use Rattle.demangle_printing.specs.Lines.{line_steps}
use Rattle.demangle_meets.proofs.Acts.{meets_done, meets_text}
use Rattle.demangle_meets.proofs.Parts.{meets_part, prints_at, prints_deep, prints_node}
use Rattle.demangle_print_types.proofs.Itself.{exception_is_itself}
use Rattle.demangle_print_types.proofs.functions.exception_spec.Goals as goal

pub returns-in_default : goal.returns-in_default
returns-in_default g c = prints_deep (exception_is_itself _ c.args.node.now) c.in_default.ensures

pub returns-in-NoExcept : goal.returns-in-NoExcept
unfolding body line_steps
returns-in-NoExcept g c =
    prints_at tree_of_exception_spec c.in-NoExcept.is
    (prints_node refl c.in-Some.ensures.0 (meets_text c.text.ensures meets_done))

pub returns-in-Computed : goal.returns-in-Computed
unfolding body line_steps
returns-in-Computed g c =
    prints_at tree_of_exception_spec c.in-Computed.is
    (prints_node refl c.in-Some.ensures.0
    (meets_text c.text-in-Computed.ensures
    (meets_part (prints_at tree_of_expression (sym c.deref.ensures) c.expression.ensures)
    (meets_text c.text-in-Computed-2.ensures meets_done))))
