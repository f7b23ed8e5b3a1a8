use Rattle.std.proofs.Common.{refl}
use Rattle.demangle_nodes.specs.TreeNodes.{parts_of_fold_expr, tag_of_fold_expr}
use Rattle.demangle_nodes.proofs.Parts.{fold_expr_binary_left, fold_expr_binary_right, fold_expr_unary_left}
use Rattle.demangle_nodes.proofs.Parts.{fold_expr_unary_right}
use Rattle.demangle_printing.specs.Print.{body}
use Rattle.demangle_printing.specs.Lines.{line_steps}
use Rattle.demangle_meets.proofs.Acts.{meets_block, meets_done, meets_text}
use Rattle.demangle_meets.proofs.Parts.{meets_part, prints_deep, prints_node, prints_parts}
use Rattle.demangle_print_primaries.proofs.Itself.{fold_is_itself}
use Rattle.demangle_print_expressions.proofs.folds.fold_expr.Goals as goal

pub returns-in_default : goal.returns-in_default
returns-in_default g c = prints_deep (fold_is_itself _ c.args.node.now) c.in_default.ensures

pub returns-in-UnaryLeft : goal.returns-in-UnaryLeft
unfolding body line_steps
returns-in-UnaryLeft g c =
    prints_parts tag_of_fold_expr parts_of_fold_expr c.in-UnaryLeft.is (fold_expr_unary_left _ _) (prints_node refl
    c.in-Some.ensures.0 (meets_text c.text.ensures (meets_part (c.simple_operator_name.ensures _) (meets_block (rw
    c.deref.ensures at c.operand.ensures) (meets_text c.text-in-UnaryLeft.ensures meets_done)))))

pub returns-in-UnaryRight : goal.returns-in-UnaryRight
unfolding body line_steps
returns-in-UnaryRight g c =
    prints_parts tag_of_fold_expr parts_of_fold_expr c.in-UnaryRight.is (fold_expr_unary_right _ _) (prints_node
    refl c.in-Some.ensures.0 (meets_text c.text-in-UnaryRight.ensures (meets_block (rw c.deref-in-UnaryRight.ensures
    at c.operand-in-UnaryRight.ensures) (meets_part (c.simple_operator_name-in-UnaryRight.ensures _) (meets_text
    c.text-in-UnaryRight-2.ensures meets_done)))))

pub returns-in-BinaryLeft : goal.returns-in-BinaryLeft
unfolding body line_steps
returns-in-BinaryLeft g c =
    prints_parts tag_of_fold_expr parts_of_fold_expr c.in-BinaryLeft.is (fold_expr_binary_left _ _ _) (prints_node
    refl c.in-Some.ensures.0 (rw (c.deref-in-BinaryLeft.ensures, c.deref-in-BinaryLeft-2.ensures) at
    c.binary_fold.ensures))

pub returns-in-BinaryRight : goal.returns-in-BinaryRight
unfolding body line_steps
returns-in-BinaryRight g c =
    prints_parts tag_of_fold_expr parts_of_fold_expr c.in-BinaryRight.is (fold_expr_binary_right _ _ _) (prints_node
    refl c.in-Some.ensures.0 (rw (c.deref-in-BinaryRight.ensures, c.deref-in-BinaryRight-2.ensures) at
    c.binary_fold-in-BinaryRight.ensures))
