use Rattle.std.proofs.Common.{refl}
use Rattle.demangle_nodes.specs.TreeNodes.{parts_of_expression, tag_of_expression}
use Rattle.demangle_nodes.proofs.Parts.{expression_function_param, expression_primary, expression_rethrow}
use Rattle.demangle_nodes.proofs.Parts.{expression_sizeof_captured_template_pack, expression_sizeof_function_pack}
use Rattle.demangle_nodes.proofs.Parts.{expression_sizeof_template_pack, expression_template_param}
use Rattle.demangle_nodes.proofs.Parts.{expression_unresolved_name}
use Rattle.demangle_printing.specs.Print.{body}
use Rattle.demangle_printing.specs.Lines.{line_steps}
use Rattle.demangle_meets.proofs.Acts.{meets_done, meets_text}
use Rattle.demangle_meets.proofs.Parts.{line_parts, meets_part}
use Rattle.demangle_print_shapes.specs.Kinds.{shaped_kinds}
use Rattle.demangle_print_shapes.proofs.Rest.{◌also◌, rest_of}
use Rattle.demangle_print_components.specs.Kinds.{primary_kinds}
use Rattle.demangle_print_components.proofs.expressions.primary_steps.Goals as goal

pub returns-in-SizeofTemplatePack : goal.returns-in-SizeofTemplatePack
returns-in-SizeofTemplatePack g c =
    line_parts tag_of_expression parts_of_expression c.in-SizeofTemplatePack.is (expression_sizeof_template_pack _)
    c.sizeof_template_pack.ensures

pub returns-in-SizeofFunctionPack : goal.returns-in-SizeofFunctionPack
returns-in-SizeofFunctionPack g c =
    line_parts tag_of_expression parts_of_expression c.in-SizeofFunctionPack.is (expression_sizeof_function_pack _)
    (c.sizeof_function_pack.ensures _)

pub returns-in-SizeofCapturedTemplatePack : goal.returns-in-SizeofCapturedTemplatePack
returns-in-SizeofCapturedTemplatePack g c =
    line_parts tag_of_expression parts_of_expression c.in-SizeofCapturedTemplatePack.is
    (expression_sizeof_captured_template_pack _) (rw c.as_slice.ensures.value at
    c.sizeof_captured_pack.ensures)

pub returns-in-TemplateParam : goal.returns-in-TemplateParam
unfolding body line_steps
returns-in-TemplateParam g c =
    line_parts tag_of_expression parts_of_expression c.in-TemplateParam.is (expression_template_param _) (record {
      meets = meets_part c.template_param.ensures meets_done;
    })

pub returns-in-FunctionParam : goal.returns-in-FunctionParam
unfolding body line_steps
returns-in-FunctionParam g c =
    line_parts tag_of_expression parts_of_expression c.in-FunctionParam.is (expression_function_param _) (record {
      meets = meets_part (c.function_param.ensures _) meets_done;
    })

pub returns-in-Rethrow : goal.returns-in-Rethrow
unfolding body line_steps
returns-in-Rethrow g c =
    line_parts tag_of_expression parts_of_expression c.in-Rethrow.is expression_rethrow (record {
      meets = meets_text
          c.text.ensures meets_done;
    })

pub returns-in-UnresolvedName : goal.returns-in-UnresolvedName
unfolding body line_steps
returns-in-UnresolvedName g c =
    line_parts tag_of_expression parts_of_expression c.in-UnresolvedName.is (expression_unresolved_name _) (record {
      meets = meets_part c.unresolved_name.ensures meets_done;
    })

pub returns-in-Primary : goal.returns-in-Primary
unfolding body line_steps
returns-in-Primary g c =
    line_parts tag_of_expression parts_of_expression c.in-Primary.is (expression_primary _) (record {
      meets =
          meets_part c.expr_primary.ensures meets_done;
    })

pub shaped_steps-requires : goal.shaped_steps-requires
shaped_steps-requires g c κs = (
  (refl, _),
  (
    c.requires.can,
    rest_of primary_kinds shaped_kinds c.args.node.now c.requires.others (
        c.in_default.not-SizeofTemplatePack also c.in_default.not-SizeofFunctionPack also
        c.in_default.not-SizeofCapturedTemplatePack also c.in_default.not-TemplateParam also
        c.in_default.not-FunctionParam also c.in_default.not-Rethrow also c.in_default.not-UnresolvedName also
        c.in_default.not-Primary also tt
        ),
  ),
)
