use Rattle.std.proofs.Common.{refl, ◌++◌}
use Rattle.demangle_nodes.specs.TreeNodes.{parts_of_expression, tag_of_expression}
use Rattle.demangle_nodes.proofs.Parts.{expression_delete, expression_delete_array, expression_global_delete}
use Rattle.demangle_nodes.proofs.Parts.{expression_global_delete_array, expression_prefix_dec, expression_prefix_inc}
use Rattle.demangle_nodes.proofs.Parts.{expression_throw}
use Rattle.demangle_printing.specs.Print.{body}
use Rattle.demangle_printing.specs.Lines.{line_steps}
use Rattle.demangle_meets.proofs.Parts.{line_parts}
use Rattle.demangle_print_shapes.specs.Kinds.{enclosed_kinds, led_kinds, made_kinds}
use Rattle.demangle_print_shapes.proofs.Rest.{◌also◌, rest_of}
use Rattle.demangle_print_shapes.proofs.expressions.shaped_steps.Goals as goal

pub returns-in-PrefixInc : goal.returns-in-PrefixInc
unfolding body line_steps
returns-in-PrefixInc g c =
    line_parts tag_of_expression parts_of_expression c.in-PrefixInc.is (expression_prefix_inc _) (record {
      meets =
          rw c.deref.ensures at c.led.ensures;
    })

pub returns-in-PrefixDec : goal.returns-in-PrefixDec
unfolding body line_steps
returns-in-PrefixDec g c =
    line_parts tag_of_expression parts_of_expression c.in-PrefixDec.is (expression_prefix_dec _) (record {
      meets =
          rw c.deref-in-PrefixDec.ensures at c.led-in-PrefixDec.ensures;
    })

pub returns-in-Delete : goal.returns-in-Delete
unfolding body line_steps
returns-in-Delete g c =
    line_parts tag_of_expression parts_of_expression c.in-Delete.is (expression_delete _) (record {
      meets = rw
          c.deref-in-Delete.ensures at c.led-in-Delete.ensures;
    })

pub returns-in-DeleteArray : goal.returns-in-DeleteArray
unfolding body line_steps
returns-in-DeleteArray g c =
    line_parts tag_of_expression parts_of_expression c.in-DeleteArray.is (expression_delete_array _) (record {
      meets
          = rw c.deref-in-DeleteArray.ensures at c.led-in-DeleteArray.ensures;
    })

pub returns-in-GlobalDelete : goal.returns-in-GlobalDelete
unfolding body line_steps
returns-in-GlobalDelete g c =
    line_parts tag_of_expression parts_of_expression c.in-GlobalDelete.is (expression_global_delete _) (record {
      meets = rw c.deref-in-GlobalDelete.ensures at c.global_led.ensures;
    })

pub returns-in-GlobalDeleteArray : goal.returns-in-GlobalDeleteArray
unfolding body line_steps
returns-in-GlobalDeleteArray g c =
    line_parts tag_of_expression parts_of_expression c.in-GlobalDeleteArray.is (expression_global_delete_array _)
    (record { meets = rw c.deref-in-GlobalDeleteArray.ensures at c.global_led-in-GlobalDeleteArray.ensures })

pub returns-in-Throw : goal.returns-in-Throw
unfolding body line_steps
returns-in-Throw g c =
    line_parts tag_of_expression parts_of_expression c.in-Throw.is (expression_throw _) (record {
      meets = rw
          c.deref-in-Throw.ensures at c.led-in-Throw.ensures;
    })

pub enclosed_steps-requires : goal.enclosed_steps-requires
enclosed_steps-requires g c κs = (
  (refl, _),
  (
    c.requires.can,
    rest_of led_kinds (enclosed_kinds ++ made_kinds) c.args.node.now c.requires.shaped (
        c.in_default.not-PrefixInc also c.in_default.not-PrefixDec also c.in_default.not-Delete also
        c.in_default.not-DeleteArray also c.in_default.not-GlobalDelete also c.in_default.not-GlobalDeleteArray also
        c.in_default.not-Throw also tt
        ),
  ),
)
