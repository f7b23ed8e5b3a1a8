use Rattle.std.proofs.Common.{ap, sym}
use Rattle.demangle_leaf_nodes.specs.TreeLeaves.{tree_of_number, tree_of_option}
use Rattle.demangle_leaves_to_cells.proofs.Puts.{told}
use Rattle.demangle_leaves_to_cells.proofs.parts.optional_number_to.Goals as goal

pub returns-in-Some : goal.returns-in-Some
returns-in-Some c = told _ _ _ _ _ (sym (ap (tree_of_option tree_of_number) c.in-Some.is)) (c.one.ensures _ _
    c.number_to-part.ensures)
