use Rattle.std.proofs.Common.{refl}
use Rattle.demangle_nodes.proofs.Equal.{last_leaf, and_then_leaf, differs_leaf, and_then_number, differs_number}
use Rattle.demangle_entries.specs.TreeEntries.{tag_of_vector_type, parts_of_vector_type}
use Rattle.demangle_entries.proofs.Trees.{same_tree, other_number, other_test, same_number}
use Rattle.demangle_entries.proofs.same_entries.VectorTypePartialEq.eq.Goals as goal

pub returns-then-a-other_a : goal.returns-then-a-other_a
returns-then-a-other_a c =
    same_tree tag_of_vector_type parts_of_vector_type c.in-DimensionNumber.is c.in-DimensionNumber-other.is
    refl refl refl
    (and_then_number (same_number c.in-DimensionNumber.a c.in-DimensionNumber-other.other_a c.if-a-other_a.true)
    (last_leaf c.eq.ensures))

pub returns-else-a-other_a : goal.returns-else-a-other_a
returns-else-a-other_a c =
    same_tree tag_of_vector_type parts_of_vector_type c.in-DimensionNumber.is c.in-DimensionNumber-other.is
    refl refl refl
    (differs_number (other_test c.in-DimensionNumber.a c.in-DimensionNumber-other.other_a c.if-a-other_a.false)
    (other_number c.in-DimensionNumber.a c.in-DimensionNumber-other.other_a c.if-a-other_a.false))

pub returns-then-eq : goal.returns-then-eq
returns-then-eq c =
    same_tree tag_of_vector_type parts_of_vector_type c.in-DimensionExpression.is c.in-DimensionExpression-other.is
    refl refl refl
    (and_then_leaf c.if-eq.ensures (last_leaf c.eq-then-eq.ensures))

pub returns-else-eq : goal.returns-else-eq
returns-else-eq c =
    same_tree tag_of_vector_type parts_of_vector_type c.in-DimensionExpression.is c.in-DimensionExpression-other.is
    refl refl refl
    (differs_leaf c.if-eq.false c.if-eq.ensures)
