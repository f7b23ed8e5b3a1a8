use Rattle.std.proofs.Common.{sym}
use Rattle.demangle_nodes.specs.TreeNodes.{tree_of_expression}
use Rattle.demangle_meets.proofs.Parts.{line_at}
use Rattle.demangle_print_components.specs.Held.{held_in}
use Rattle.demangle_print_components.proofs.components.substitutable_steps.Goals as goal

pub returns-in-UnscopedTemplateName : goal.returns-in-UnscopedTemplateName
returns-in-UnscopedTemplateName g c =
    line_at held_in c.in-UnscopedTemplateName.is c.unscoped_template_name_steps.ensures

pub returns-in-TypeNode : goal.returns-in-TypeNode
returns-in-TypeNode g c = line_at held_in c.in-TypeNode.is c.type_node_steps.ensures

pub returns-in-TemplateTemplateParam : goal.returns-in-TemplateTemplateParam
returns-in-TemplateTemplateParam g c =
    line_at held_in c.in-TemplateTemplateParam.is c.template_template_param_steps.ensures

pub returns-in-UnresolvedType : goal.returns-in-UnresolvedType
returns-in-UnresolvedType g c = line_at held_in c.in-UnresolvedType.is c.unresolved_type_steps.ensures

pub returns-in-Prefix : goal.returns-in-Prefix
returns-in-Prefix g c = line_at held_in c.in-Prefix.is c.prefix_steps.ensures

pub returns-in-Expression : goal.returns-in-Expression
returns-in-Expression g c =
    line_at held_in c.in-Expression.is (line_at tree_of_expression (sym c.deref.ensures) c.expression_steps.ensures)
