use Rattle.std.proofs.Common.{refl}
use Rattle.demangle_leaf_nodes.specs.TreeLeaves.{tree_of_option}
use Rattle.demangle_nodes.specs.TreeNodes.{tree_of_initializer}
use Rattle.demangle_meets.proofs.Parts.{prints_at, prints_nothing, prints_same}
use Rattle.demangle_print_expressions.proofs.creations.optional_initializer.Goals as goal

pub returns-in-Some : goal.returns-in-Some
returns-in-Some g c =
    prints_at (tree_of_option tree_of_initializer) c.in-Some.is (prints_same refl c.initializer.ensures)

pub returns-in_default : goal.returns-in_default
returns-in_default g c = prints_at (tree_of_option tree_of_initializer) c.in_default.is (prints_nothing refl)
