use Rattle.std.proofs.Common.{ap, sym}
use Rattle.demangle_entries.specs.TreeEntries.{tree_of_prefix}
use Rattle.demangle_leaves_to_cells.proofs.Puts.{told}
use Rattle.demangle_nodes_to_cells.proofs.entries.prefix_to.Goals as goal

pub returns-in-Unqualified : goal.returns-in-Unqualified
returns-in-Unqualified c = told _ _ _ _ _ (sym (ap tree_of_prefix c.in-Unqualified.is)) (c.one.ensures _ _
    c.unqualified_name_to-first.ensures)

pub returns-in-Nested : goal.returns-in-Nested
returns-in-Nested c = told _ _ _ _ _ (sym (ap tree_of_prefix c.in-Nested.is)) (c.two.ensures _ _ _ _
    c.prefix_handle_to-first.ensures c.unqualified_name_to-second.ensures)

pub returns-in-Template : goal.returns-in-Template
returns-in-Template c = told _ _ _ _ _ (sym (ap tree_of_prefix c.in-Template.is)) (c.two-in-Template.ensures _ _ _ _
    c.prefix_handle_to-first-in-Template.ensures c.template_args_to-second.ensures)

pub returns-in-TemplateParam : goal.returns-in-TemplateParam
returns-in-TemplateParam c = told _ _ _ _ _ (sym (ap tree_of_prefix c.in-TemplateParam.is))
    (c.one-in-TemplateParam.ensures _ _ c.template_param_to-first.ensures)

pub returns-in-Decltype : goal.returns-in-Decltype
returns-in-Decltype c = told _ _ _ _ _ (sym (ap tree_of_prefix c.in-Decltype.is)) (c.one-in-Decltype.ensures _ _
    c.decltype_to-first.ensures)

pub returns-in-DataMember : goal.returns-in-DataMember
returns-in-DataMember c = told _ _ _ _ _ (sym (ap tree_of_prefix c.in-DataMember.is)) (c.two-in-DataMember.ensures _ _ _
    _ c.prefix_handle_to-first-in-DataMember.ensures c.data_member_prefix_to-second.ensures)
