-- The trees of nodes, and the table of components.
use Rattle.demangle_core.specs.Core.{Core}
use Rattle.demangle_core.specs.Table.{Table}
use Rattle.demangle_cell_trees.specs.ArenaTrees.{node_at, table_of}
use Rattle.demangle_cell_trees.specs.declared.components.Components.{Components}
use Rattle.demangle_cell_trees.specs.declared.node.Node.{Node}

abbrev pub node_tree : Node → Core
node_tree n = node_at n.arena.now n.at

abbrev pub table_in : Components → Table
table_in c = table_of c.arena.now
