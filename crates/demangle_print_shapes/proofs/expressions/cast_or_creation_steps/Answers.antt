use Rattle.std.proofs.Common.{sym, true≢false, []}
use Rattle.demangle_nodes.specs.TreeNodes.{parts_of_expression, tag_of_expression}
use Rattle.demangle_nodes.proofs.Parts.{expression_const_cast, expression_dynamic_cast, expression_global_new}
use Rattle.demangle_nodes.proofs.Parts.{expression_global_new_array, expression_new, expression_new_array}
use Rattle.demangle_nodes.proofs.Parts.{expression_reinterpret_cast, expression_static_cast}
use Rattle.demangle_printing.specs.Print.{body}
use Rattle.demangle_printing.specs.Lines.{line_steps}
use Rattle.demangle_meets.proofs.Parts.{line_parts}
use Rattle.demangle_print_shapes.specs.Kinds.{made_kinds}
use Rattle.demangle_print_shapes.proofs.Rest.{◌also◌, rest_of}
use Rattle.demangle_print_shapes.proofs.expressions.cast_or_creation_steps.Goals as goal

pub returns-in-DynamicCast : goal.returns-in-DynamicCast
unfolding body line_steps
returns-in-DynamicCast g c =
    line_parts tag_of_expression parts_of_expression c.in-DynamicCast.is (expression_dynamic_cast _ _) (record {
      meets = rw c.deref.ensures at c.cast.ensures;
    })

pub returns-in-StaticCast : goal.returns-in-StaticCast
unfolding body line_steps
returns-in-StaticCast g c =
    line_parts tag_of_expression parts_of_expression c.in-StaticCast.is (expression_static_cast _ _) (record {
      meets
          = rw c.deref-in-StaticCast.ensures at c.cast-in-StaticCast.ensures;
    })

pub returns-in-ConstCast : goal.returns-in-ConstCast
unfolding body line_steps
returns-in-ConstCast g c =
    line_parts tag_of_expression parts_of_expression c.in-ConstCast.is (expression_const_cast _ _) (record {
      meets =
          rw c.deref-in-ConstCast.ensures at c.cast-in-ConstCast.ensures;
    })

pub returns-in-ReinterpretCast : goal.returns-in-ReinterpretCast
unfolding body line_steps
returns-in-ReinterpretCast g c =
    line_parts tag_of_expression parts_of_expression c.in-ReinterpretCast.is (expression_reinterpret_cast _ _)
    (record { meets = rw c.deref-in-ReinterpretCast.ensures at c.cast-in-ReinterpretCast.ensures })

pub returns-in-New : goal.returns-in-New
unfolding body line_steps
returns-in-New g c =
    line_parts tag_of_expression parts_of_expression c.in-New.is (expression_new _ _ _) (record {
      meets = rw
          c.as_slice.ensures.value at c.creation.ensures;
    })

pub returns-in-NewArray : goal.returns-in-NewArray
unfolding body line_steps
returns-in-NewArray g c =
    line_parts tag_of_expression parts_of_expression c.in-NewArray.is (expression_new_array _ _ _) (record {
      meets =
          rw c.as_slice-in-NewArray.ensures.value at c.creation-in-NewArray.ensures;
    })

pub returns-in-GlobalNew : goal.returns-in-GlobalNew
unfolding body line_steps
returns-in-GlobalNew g c =
    line_parts tag_of_expression parts_of_expression c.in-GlobalNew.is (expression_global_new _ _ _) (record {
      meets
          = rw c.as_slice-in-GlobalNew.ensures.value at c.global_creation.ensures;
    })

pub returns-in-GlobalNewArray : goal.returns-in-GlobalNewArray
unfolding body line_steps
returns-in-GlobalNewArray g c =
    line_parts tag_of_expression parts_of_expression c.in-GlobalNewArray.is (expression_global_new_array _ _ _)
    (record { meets = rw c.as_slice-in-GlobalNewArray.ensures.value at c.global_creation-in-GlobalNewArray.ensures })

pub returns-in_default : goal.returns-in_default
returns-in_default g c =
    absurd (true≢false (sym (rest_of made_kinds [] c.args.node.now c.requires.shaped (
    c.in_default.not-DynamicCast also c.in_default.not-StaticCast also c.in_default.not-ConstCast also
    c.in_default.not-ReinterpretCast also c.in_default.not-New also c.in_default.not-NewArray also
    c.in_default.not-GlobalNew also c.in_default.not-GlobalNewArray also tt
    ))))
