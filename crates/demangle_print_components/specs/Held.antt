-- What a component holds.
use Rattle.demangle_core.specs.Core.{Core}
use Rattle.demangle_leaf_nodes.specs.TreeLeaves.{tree_of_template_template_param, tree_of_unscoped_template_name}
use Rattle.demangle_nodes.specs.TreeNodes.{tree_of_expression}
use Rattle.demangle_entries.specs.declared.entries.Substitutable.{Substitutable}
use Rattle.demangle_entries.specs.declared.entries.Substitutable.TheVariants as of_substitutable
use Rattle.demangle_entries.specs.TreeEntries.{tree_of_prefix, tree_of_type_node, tree_of_unresolved_type}

abbrev pub held_in : Substitutable → Core
held_in (of_substitutable.UnscopedTemplateName x) = tree_of_unscoped_template_name x
held_in (of_substitutable.TypeNode x) = tree_of_type_node x
held_in (of_substitutable.TemplateTemplateParam x) = tree_of_template_template_param x
held_in (of_substitutable.UnresolvedType x) = tree_of_unresolved_type x
held_in (of_substitutable.Prefix x) = tree_of_prefix x
held_in (of_substitutable.Expression x) = tree_of_expression x.value
