use Rattle.std.proofs.Common.{refl}
use Rattle.demangle_leaf_nodes.specs.TreeLeaves.{tree_of_operator_name}
use Rattle.demangle_printing.specs.Lines.{line_steps}
use Rattle.demangle_printing.specs.Print.{body}
use Rattle.demangle_meets.specs.Page.{at}
use Rattle.demangle_meets.proofs.Acts.{meets_ask, meets_done, meets_text}
use Rattle.demangle_meets.proofs.Lines.{meets_said}
use Rattle.demangle_meets.proofs.Parts.{meets_part, prints_at, prints_deep, prints_node}
use Rattle.demangle_print_below.specs.PageOf.{page}
use Rattle.demangle_print_parts.proofs.WordOperators.{operator_is_itself}
use Rattle.demangle_print_parts.proofs.operators.operator_name.Goals as goal

pub returns-in_default : goal.returns-in_default
returns-in_default g c = prints_deep (operator_is_itself _ c.args.node.now) c.in_default.ensures

pub returns-in-Simple : goal.returns-in-Simple
unfolding body line_steps
returns-in-Simple g c =
    prints_at tree_of_operator_name c.in-Simple.is (prints_node refl c.in-Some.ensures.0
    (meets_ask (λ _. refl) (c.space_before_word.ensures _ (at 0 (page g.W.DemangleWrite.seen c.args.ctx.now)))
    (meets_part (c.simple_operator_name.ensures _) meets_done)))

pub returns-in-Cast : goal.returns-in-Cast
unfolding body line_steps
returns-in-Cast g c =
    prints_at tree_of_operator_name c.in-Cast.is (prints_node refl c.in-Some.ensures.0 c.conversion.ensures)

pub returns-in-Conversion : goal.returns-in-Conversion
unfolding body line_steps
returns-in-Conversion g c =
    prints_at tree_of_operator_name c.in-Conversion.is
    (prints_node refl c.in-Some.ensures.0 c.conversion-in-Conversion.ensures)

pub returns-in-Literal : goal.returns-in-Literal
unfolding body line_steps
returns-in-Literal g c =
    prints_at tree_of_operator_name c.in-Literal.is (prints_node refl c.in-Some.ensures.0
    (meets_part (c.source_name.ensures _) (meets_text c.text.ensures meets_done)))

pub returns-in-VendorExtension : goal.returns-in-VendorExtension
unfolding body line_steps
returns-in-VendorExtension g c =
    prints_at tree_of_operator_name c.in-VendorExtension.is (prints_node refl c.in-Some.ensures.0
    (meets_part (c.source_name-in-VendorExtension.ensures _) (meets_text c.text-in-VendorExtension.ensures
    (meets_said c.unsigned.ensures meets_done))))
