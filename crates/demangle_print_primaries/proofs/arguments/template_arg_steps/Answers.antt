use Rattle.std.proofs.Common.{true}
use Rattle.demangle_nodes.specs.TreeNodes.{parts_of_template_arg, tag_of_template_arg}
use Rattle.demangle_nodes.proofs.Parts.{template_arg_arg_pack, template_arg_expression}
use Rattle.demangle_nodes.proofs.Parts.{template_arg_simple_expression, template_arg_type_arg}
use Rattle.demangle_printing.specs.State.{pack}
use Rattle.demangle_printing.specs.Print.{body}
use Rattle.demangle_printing.specs.Lines.{line_steps}
use Rattle.demangle_meets.proofs.Acts.{meets_done, meets_set}
use Rattle.demangle_meets.proofs.Parts.{line_parts, meets_part}
use Rattle.demangle_scope.specs.ScopeOf.{scope_of}
use Rattle.demangle_print_primaries.proofs.Lists.{meets_list}
use Rattle.demangle_print_primaries.proofs.arguments.template_arg_steps.Goals as goal

pub returns-in-TypeArg : goal.returns-in-TypeArg
unfolding body line_steps
returns-in-TypeArg g c =
    line_parts tag_of_template_arg parts_of_template_arg c.in-TypeArg.is (template_arg_type_arg _) (record {
      meets =
          meets_part c.type_handle.ensures meets_done;
    })

pub returns-in-Expression : goal.returns-in-Expression
unfolding body line_steps
returns-in-Expression g c =
    line_parts tag_of_template_arg parts_of_template_arg c.in-Expression.is (template_arg_expression _) (record {
      meets = meets_part c.expression.ensures meets_done;
    })

pub returns-in-SimpleExpression : goal.returns-in-SimpleExpression
unfolding body line_steps
returns-in-SimpleExpression g c =
    line_parts tag_of_template_arg parts_of_template_arg c.in-SimpleExpression.is (template_arg_simple_expression _)
    (record { meets = meets_part c.expr_primary.ensures meets_done })

pub returns-in-ArgPack : goal.returns-in-ArgPack
unfolding body line_steps
returns-in-ArgPack g c =
    line_parts tag_of_template_arg parts_of_template_arg c.in-ArgPack.is (template_arg_arg_pack _) (record {
      meets =
          meets_set {i = pack} {v = true} c.turn.ensures (meets_list (scope_of c.args.scope) tag_of_template_arg
          parts_of_template_arg _ (rw c.as_slice.ensures.value at c.template_arg_list.ensures) meets_done);
    })
