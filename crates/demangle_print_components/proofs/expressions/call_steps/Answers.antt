use Rattle.std.proofs.Common.{refl, ◌++◌}
use Rattle.demangle_nodes.specs.TreeNodes.{parts_of_expression, tag_of_expression}
use Rattle.demangle_nodes.proofs.Parts.{expression_braced_init_list, expression_call, expression_conversion_braced}
use Rattle.demangle_nodes.proofs.Parts.{expression_conversion_many, expression_conversion_one}
use Rattle.demangle_nodes.proofs.Parts.{expression_pack_expansion}
use Rattle.demangle_printing.specs.Print.{body}
use Rattle.demangle_printing.specs.Lines.{line_steps}
use Rattle.demangle_meets.proofs.Parts.{line_parts}
use Rattle.demangle_print_shapes.specs.Kinds.{shaped_kinds}
use Rattle.demangle_print_shapes.proofs.Rest.{◌also◌, rest_of}
use Rattle.demangle_print_components.specs.Kinds.{call_kinds, primary_kinds}
use Rattle.demangle_print_components.proofs.expressions.call_steps.Goals as goal

pub returns-in-Call : goal.returns-in-Call
returns-in-Call g c =
    line_parts tag_of_expression parts_of_expression c.in-Call.is (expression_call _ _) (rw
    (c.deref.ensures, c.as_slice.ensures.value) at c.call.ensures)

pub returns-in-ConversionOne : goal.returns-in-ConversionOne
returns-in-ConversionOne g c =
    line_parts tag_of_expression parts_of_expression c.in-ConversionOne.is (expression_conversion_one _ _) (rw
    c.deref-in-ConversionOne.ensures at c.conversion_one.ensures)

pub returns-in-ConversionMany : goal.returns-in-ConversionMany
returns-in-ConversionMany g c =
    line_parts tag_of_expression parts_of_expression c.in-ConversionMany.is (expression_conversion_many _ _) (rw
    c.as_slice-in-ConversionMany.ensures.value at c.conversion_many.ensures)

pub returns-in-ConversionBraced : goal.returns-in-ConversionBraced
returns-in-ConversionBraced g c =
    line_parts tag_of_expression parts_of_expression c.in-ConversionBraced.is (expression_conversion_braced _ _) (rw
    c.as_slice-in-ConversionBraced.ensures.value at c.conversion_braced.ensures)

pub returns-in-BracedInitList : goal.returns-in-BracedInitList
returns-in-BracedInitList g c =
    line_parts tag_of_expression parts_of_expression c.in-BracedInitList.is (expression_braced_init_list _) (rw
    c.as_slice-in-BracedInitList.ensures.value at c.braced_init_list.ensures)

pub returns-in-PackExpansion : goal.returns-in-PackExpansion
unfolding body line_steps
returns-in-PackExpansion g c =
    line_parts tag_of_expression parts_of_expression c.in-PackExpansion.is (expression_pack_expansion _) (record {
      meets = rw c.deref-in-PackExpansion.ensures at c.pack_expansion.ensures;
    })

pub primary_steps-requires : goal.primary_steps-requires
primary_steps-requires g c κs = (
  (refl, _),
  (
    c.requires.can,
    rest_of call_kinds (primary_kinds ++ shaped_kinds) c.args.node.now c.requires.others (
        c.in_default.not-Call also c.in_default.not-ConversionOne also c.in_default.not-ConversionMany also
        c.in_default.not-ConversionBraced also c.in_default.not-BracedInitList also
        c.in_default.not-PackExpansion also tt
        ),
  ),
)
