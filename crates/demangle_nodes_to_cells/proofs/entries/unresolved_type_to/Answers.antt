use Rattle.std.proofs.Common.{ap, sym}
use Rattle.demangle_entries.specs.TreeEntries.{tree_of_unresolved_type}
use Rattle.demangle_leaves_to_cells.proofs.Puts.{told}
use Rattle.demangle_nodes_to_cells.proofs.entries.unresolved_type_to.Goals as goal

pub returns-in-Template : goal.returns-in-Template
returns-in-Template c = told _ _ _ _ _ (sym (ap tree_of_unresolved_type c.in-Template.is)) (c.two.ensures _ _ _ _
    c.template_param_to-first.ensures c.optional_template_args_to-second.ensures)

pub returns-in-Decltype : goal.returns-in-Decltype
returns-in-Decltype c = told _ _ _ _ _ (sym (ap tree_of_unresolved_type c.in-Decltype.is)) (c.one.ensures _ _
    c.decltype_to-first.ensures)
