-- What of an array stands behind its elements, and what behind types that have nothing there.
use Rattle.std.proofs.Common.{◌≡◌, refl}
use Rattle.demangle_core.specs.Core.{Core}
use Rattle.demangle_leaf_nodes.specs.declared.leaves.CvQualifiers.{CvQualifiers}
use Rattle.demangle_leaf_nodes.specs.declared.leaves.TypeHandle.{TypeHandle}
use Rattle.demangle_entries.specs.declared.entries.ArrayType.{ArrayType}
use Rattle.demangle_entries.specs.declared.entries.ArrayType.TheVariants as of_array
use Rattle.demangle_entries.specs.declared.entries.TypeNode.{TypeNode}
use Rattle.demangle_entries.specs.declared.entries.TypeNode.TheVariants as of_node
use Rattle.demangle_entries.specs.TreeEntries.{tree_of_array_type, tree_of_type_node}
use Rattle.demangle_printing.specs.Scope.{Scope}
use Rattle.demangle_printing.specs.Act.{done}
use Rattle.demangle_printing.specs.Rules.{inside_of}
use Rattle.demangle_printing.specs.Print.{body}
use Rattle.demangle_printing.specs.Lines.{inside_steps}
use Rattle.demangle_meets.specs.Place.{Refers, world_of}
use Rattle.demangle_print_inner.specs.Behind.{array_behind}

pub array_is_behind : (r : Refers) (sc : Scope Core) (x : ArrayType) →
    body (world_of r) (inside_of (world_of r) sc (tree_of_array_type x)).0
    (inside_of (world_of r) sc (tree_of_array_type x)).1 ≡ array_behind (world_of r) x sc
unfolding body inside_steps
array_is_behind r sc (of_array.DimensionNumber a b) = refl
array_is_behind r sc (of_array.DimensionExpression a b) = refl
array_is_behind r sc (of_array.NoDimension a) = refl

pub nothing_behind : (r : Refers) (sc : Scope Core) (x : TypeNode) →
    ((a : CvQualifiers) (b : TypeHandle) → x ≡ of_node.Qualified a b → ⊥) →
    ((a : TypeHandle) → x ≡ of_node.PointerTo a → ⊥) → ((a : TypeHandle) → x ≡ of_node.LvalueRef a → ⊥) →
    ((a : TypeHandle) → x ≡ of_node.RvalueRef a → ⊥) →
    body (world_of r) (inside_of (world_of r) sc (tree_of_type_node x)).0
    (inside_of (world_of r) sc (tree_of_type_node x)).1 ≡ done
unfolding body inside_steps
nothing_behind r sc (of_node.Qualified a b) q p l v = absurd (q a b refl)
nothing_behind r sc (of_node.PointerTo a) q p l v = absurd (p a refl)
nothing_behind r sc (of_node.LvalueRef a) q p l v = absurd (l a refl)
nothing_behind r sc (of_node.RvalueRef a) q p l v = absurd (v a refl)
nothing_behind r sc _ q p l v = refl
