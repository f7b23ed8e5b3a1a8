use Rattle.std.proofs.Common.{Ok, take}
use Rattle.demangle_cells.specs.View.{view}
use Rattle.demangle_core.specs.Core.{trees}
use Rattle.demangle_leaves_to_cells.specs.Put.{Waits}
use Rattle.demangle_nodes.specs.TreeNodes.{parts_of_expression, parts_of_template_arg}
use Rattle.demangle_nodes.specs.TreeNodes.{parts_of_unresolved_qualifier_level, tag_of_expression, tag_of_template_arg}
use Rattle.demangle_nodes.specs.TreeNodes.{tag_of_unresolved_qualifier_level}
use Rattle.demangle_nodes_to_cells.proofs.nodes.+nodes.Given as goal

abbrev pub invariant-wait_template_arg_list-loop-node : goal.invariant-wait_template_arg_list-loop-node
invariant-wait_template_arg_list-loop-node l = Waits (view l.fn.arena) (view l.arena) (Ok tt) (trees tag_of_template_arg
    parts_of_template_arg (take l.node-index l.nodes))

abbrev pub invariant-wait_expression_list-loop-node : goal.invariant-wait_expression_list-loop-node
invariant-wait_expression_list-loop-node l = Waits (view l.fn.arena) (view l.arena) (Ok tt) (trees tag_of_expression
    parts_of_expression (take l.node-index l.nodes))

abbrev pub invariant-wait_unresolved_qualifier_level_list-loop-node :
    goal.invariant-wait_unresolved_qualifier_level_list-loop-node
invariant-wait_unresolved_qualifier_level_list-loop-node l = Waits (view l.fn.arena) (view l.arena) (Ok tt) (trees
    tag_of_unresolved_qualifier_level parts_of_unresolved_qualifier_level (take l.node-index l.nodes))
