use Rattle.std.proofs.Common.{refl, ◌++◌}
use Rattle.demangle_nodes.specs.TreeNodes.{parts_of_expression, tag_of_expression}
use Rattle.demangle_nodes.proofs.Parts.{expression_binary, expression_deref_member, expression_fold}
use Rattle.demangle_nodes.proofs.Parts.{expression_member, expression_pointer_to_member, expression_subobject}
use Rattle.demangle_nodes.proofs.Parts.{expression_ternary, expression_unary}
use Rattle.demangle_printing.specs.Print.{body}
use Rattle.demangle_printing.specs.Lines.{line_steps}
use Rattle.demangle_meets.proofs.Acts.{meets_done}
use Rattle.demangle_meets.proofs.Parts.{line_parts, meets_part}
use Rattle.demangle_print_shapes.specs.Kinds.{shaped_kinds}
use Rattle.demangle_print_shapes.proofs.Rest.{◌also◌, rest_of}
use Rattle.demangle_print_components.specs.Kinds.{call_kinds, primary_kinds}
use Rattle.demangle_print_components.proofs.Every.{every_kind, operator_kinds}
use Rattle.demangle_print_components.proofs.expressions.expression_steps.Goals as goal

pub returns-in-Unary : goal.returns-in-Unary
returns-in-Unary g c =
    line_parts tag_of_expression parts_of_expression c.in-Unary.is (expression_unary _ _) (rw c.deref.ensures at
    c.unary.ensures)

pub returns-in-Binary : goal.returns-in-Binary
returns-in-Binary g c =
    line_parts tag_of_expression parts_of_expression c.in-Binary.is (expression_binary _ _ _) (rw
    (c.deref-in-Binary.ensures, c.deref-in-Binary-2.ensures) at c.binary.ensures)

pub returns-in-Ternary : goal.returns-in-Ternary
returns-in-Ternary g c =
    line_parts tag_of_expression parts_of_expression c.in-Ternary.is (expression_ternary _ _ _ _) (rw
    (c.deref-in-Ternary.ensures, c.deref-in-Ternary-2.ensures, c.deref-in-Ternary-3.ensures) at c.ternary.ensures)

pub returns-in-Fold : goal.returns-in-Fold
unfolding body line_steps
returns-in-Fold g c =
    line_parts tag_of_expression parts_of_expression c.in-Fold.is (expression_fold _) (record {
      meets = meets_part
          c.fold_expr.ensures meets_done;
    })

pub returns-in-Member : goal.returns-in-Member
returns-in-Member g c =
    line_parts tag_of_expression parts_of_expression c.in-Member.is (expression_member _ _) (rw
    c.deref-in-Member.ensures at c.member.ensures)

pub returns-in-DerefMember : goal.returns-in-DerefMember
returns-in-DerefMember g c =
    line_parts tag_of_expression parts_of_expression c.in-DerefMember.is (expression_deref_member _ _) (rw
    c.deref-in-DerefMember.ensures at c.deref_member.ensures)

pub returns-in-PointerToMember : goal.returns-in-PointerToMember
returns-in-PointerToMember g c =
    line_parts tag_of_expression parts_of_expression c.in-PointerToMember.is (expression_pointer_to_member _ _) (rw
    (c.deref-in-PointerToMember.ensures, c.deref-in-PointerToMember-2.ensures) at c.pointer_to_member.ensures)

pub returns-in-Subobject : goal.returns-in-Subobject
unfolding body line_steps
returns-in-Subobject g c =
    line_parts tag_of_expression parts_of_expression c.in-Subobject.is (expression_subobject _) (record {
      meets =
          meets_part c.subobject_expr.ensures meets_done;
    })

pub call_steps-requires : goal.call_steps-requires
call_steps-requires g c κs = (
  (refl, _),
  (
    c.requires,
    rest_of operator_kinds (call_kinds ++ (primary_kinds ++ shaped_kinds)) c.args.node.now
        (every_kind c.args.node.now) (
        c.in_default.not-Unary also c.in_default.not-Binary also c.in_default.not-Ternary also
        c.in_default.not-Fold also c.in_default.not-Member also c.in_default.not-DerefMember also
        c.in_default.not-PointerToMember also c.in_default.not-Subobject also tt
        ),
  ),
)
