use Rattle.std.proofs.Common.{ap, sym}
use Rattle.demangle_entries.specs.TreeEntries.{tree_of_substitutable}
use Rattle.demangle_leaves_to_cells.proofs.Puts.{told}
use Rattle.demangle_nodes.specs.TreeNodes.{tree_of_expression}
use Rattle.demangle_nodes_to_cells.proofs.entries.substitutable_to.Goals as goal

pub returns-in-UnscopedTemplateName : goal.returns-in-UnscopedTemplateName
returns-in-UnscopedTemplateName c = told _ _ _ _ _ (sym (ap tree_of_substitutable c.in-UnscopedTemplateName.is))
    (c.one.ensures _ _ c.unscoped_template_name_to-first.ensures)

pub returns-in-TypeNode : goal.returns-in-TypeNode
returns-in-TypeNode c = told _ _ _ _ _ (sym (ap tree_of_substitutable c.in-TypeNode.is)) (c.one-in-TypeNode.ensures _ _
    c.type_node_to-first.ensures)

pub returns-in-TemplateTemplateParam : goal.returns-in-TemplateTemplateParam
returns-in-TemplateTemplateParam c = told _ _ _ _ _ (sym (ap tree_of_substitutable c.in-TemplateTemplateParam.is))
    (c.one-in-TemplateTemplateParam.ensures _ _ c.template_template_param_to-first.ensures)

pub returns-in-UnresolvedType : goal.returns-in-UnresolvedType
returns-in-UnresolvedType c = told _ _ _ _ _ (sym (ap tree_of_substitutable c.in-UnresolvedType.is))
    (c.one-in-UnresolvedType.ensures _ _ c.unresolved_type_to-first.ensures)

pub returns-in-Prefix : goal.returns-in-Prefix
returns-in-Prefix c = told _ _ _ _ _ (sym (ap tree_of_substitutable c.in-Prefix.is)) (c.one-in-Prefix.ensures _ _
    c.prefix_to-first.ensures)

pub returns-in-Expression : goal.returns-in-Expression
returns-in-Expression c = told _ _ _ _ _ (sym (ap tree_of_substitutable c.in-Expression.is))
    (c.one-in-Expression.ensures _ _ (told _ _ _ _ _ (ap tree_of_expression c.deref.ensures)
    c.expression_to-first.ensures))
