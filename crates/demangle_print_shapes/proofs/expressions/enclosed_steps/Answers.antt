use Rattle.std.proofs.Common.{refl}
use Rattle.demangle_nodes.specs.TreeNodes.{parts_of_expression, tag_of_expression}
use Rattle.demangle_nodes.proofs.Parts.{expression_alignof_expr, expression_alignof_type, expression_noexcept}
use Rattle.demangle_nodes.proofs.Parts.{expression_sizeof_expr, expression_sizeof_type, expression_typeid_expr}
use Rattle.demangle_nodes.proofs.Parts.{expression_typeid_type}
use Rattle.demangle_printing.specs.Print.{body}
use Rattle.demangle_printing.specs.Lines.{line_steps}
use Rattle.demangle_meets.proofs.Parts.{line_parts}
use Rattle.demangle_print_shapes.specs.Kinds.{enclosed_kinds, made_kinds}
use Rattle.demangle_print_shapes.proofs.Rest.{◌also◌, rest_of}
use Rattle.demangle_print_shapes.proofs.expressions.enclosed_steps.Goals as goal

pub returns-in-TypeidType : goal.returns-in-TypeidType
unfolding body line_steps
returns-in-TypeidType g c =
    line_parts tag_of_expression parts_of_expression c.in-TypeidType.is (expression_typeid_type _) (record {
      meets =
          c.enclosed_type.ensures;
    })

pub returns-in-TypeidExpr : goal.returns-in-TypeidExpr
unfolding body line_steps
returns-in-TypeidExpr g c =
    line_parts tag_of_expression parts_of_expression c.in-TypeidExpr.is (expression_typeid_expr _) (record {
      meets =
          rw c.deref.ensures at c.enclosed.ensures;
    })

pub returns-in-SizeofType : goal.returns-in-SizeofType
unfolding body line_steps
returns-in-SizeofType g c =
    line_parts tag_of_expression parts_of_expression c.in-SizeofType.is (expression_sizeof_type _) (record {
      meets =
          c.enclosed_type-in-SizeofType.ensures;
    })

pub returns-in-SizeofExpr : goal.returns-in-SizeofExpr
unfolding body line_steps
returns-in-SizeofExpr g c =
    line_parts tag_of_expression parts_of_expression c.in-SizeofExpr.is (expression_sizeof_expr _) (record {
      meets =
          rw c.deref-in-SizeofExpr.ensures at c.enclosed-in-SizeofExpr.ensures;
    })

pub returns-in-AlignofType : goal.returns-in-AlignofType
unfolding body line_steps
returns-in-AlignofType g c =
    line_parts tag_of_expression parts_of_expression c.in-AlignofType.is (expression_alignof_type _) (record {
      meets
          = c.enclosed_type-in-AlignofType.ensures;
    })

pub returns-in-AlignofExpr : goal.returns-in-AlignofExpr
unfolding body line_steps
returns-in-AlignofExpr g c =
    line_parts tag_of_expression parts_of_expression c.in-AlignofExpr.is (expression_alignof_expr _) (record {
      meets
          = rw c.deref-in-AlignofExpr.ensures at c.enclosed-in-AlignofExpr.ensures;
    })

pub returns-in-Noexcept : goal.returns-in-Noexcept
unfolding body line_steps
returns-in-Noexcept g c =
    line_parts tag_of_expression parts_of_expression c.in-Noexcept.is (expression_noexcept _) (record {
      meets = rw
          c.deref-in-Noexcept.ensures at c.enclosed-in-Noexcept.ensures;
    })

pub cast_or_creation_steps-requires : goal.cast_or_creation_steps-requires
cast_or_creation_steps-requires g c κs = (
  (refl, _),
  (
    c.requires.can,
    rest_of enclosed_kinds made_kinds c.args.node.now c.requires.shaped (
        c.in_default.not-TypeidType also c.in_default.not-TypeidExpr also c.in_default.not-SizeofType also
        c.in_default.not-SizeofExpr also c.in_default.not-AlignofType also c.in_default.not-AlignofExpr also
        c.in_default.not-Noexcept also tt
        ),
  ),
)
