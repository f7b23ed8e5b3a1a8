-- What is asked of words: of nodes that are none, and of builtin types.
use Rattle.std.proofs.Common.{◌≡◌, ◌&&◌, ℕ, Bool, false, List, [], ◌∷◌, Option, Some, None, bytes_eq}
use Rattle.std.proofs.Common.{refl, sym, ◌∙◌, ap}
use Rattle.demangle_core.specs.Core.{Core, Tag, end, node, place, number, flag, chosen, ref, mark}
use Rattle.demangle_core.specs.Table.{entry_at}
use Rattle.demangle_vocab.specs.declared.operator.SimpleOperatorName.{SimpleOperatorName}
use Rattle.demangle_vocab.specs.declared.builtin.StandardBuiltinType.{StandardBuiltinType}
use Rattle.demangle_leaf_nodes.specs.declared.leaves.BuiltinType.{BuiltinType}
use Rattle.demangle_leaf_nodes.specs.declared.leaves.BuiltinType.TheVariants as of_builtin
use Rattle.demangle_leaf_nodes.specs.declared.leaves.OperatorName.{OperatorName}
use Rattle.demangle_leaf_nodes.specs.declared.leaves.OperatorName.TheVariants as of_operator
use Rattle.demangle_leaf_nodes.specs.declared.leaves.TypeHandle.{TypeHandle}
use Rattle.demangle_leaf_nodes.specs.declared.leaves.TypeHandle.TheVariants as of_handle
use Rattle.demangle_leaf_nodes.specs.TreeLeaves.{parts_of_parametric_builtin_type, tag_of_parametric_builtin_type}
use Rattle.demangle_leaf_nodes.specs.TreeLeaves.{parts_of_type_handle, tag_of_type_handle, tree_of_builtin_type}
use Rattle.demangle_leaf_nodes.specs.TreeLeaves.{tree_of_operator_name, tree_of_type_handle}
use Rattle.demangle_printing.specs.World.{World, find, see}
use Rattle.demangle_printing.specs.Rules.{is_seen_word}
use Rattle.demangle_printing.specs.Trees.{look_component, look_in}
use Rattle.demangle_meets.specs.Place.{Refers, world_of}
use Rattle.demangle_print_primaries.specs.Literals.{is_just}

no_word_there : (t k : ℕ) (o : Option Core) → is_seen_word t k (look_component o) ≡ false
no_word_there t k None = refl
no_word_there t k (Some end) = refl
no_word_there t k (Some (node u d n)) = refl
no_word_there t k (Some (place i j n)) = refl
no_word_there t k (Some (number v n)) = refl
no_word_there t k (Some (flag b n)) = refl
no_word_there t k (Some (chosen u j n)) = refl
no_word_there t k (Some (ref w j n)) = refl
no_word_there t k (Some (mark i n)) = refl

-- a node is no word, nor what it refers to
no_word_at : (t k : ℕ) (r : Refers) (u : Tag) (c : Core) →
    is_seen_word t k (look_in r.table r.input (node u c end)) ≡ false
no_word_at t k r u end = refl
no_word_at t k r u (node v d n) = refl
no_word_at t k r u (place i j n) = refl
no_word_at t k r u (number v n) = refl
no_word_at t k r u (flag b n) = refl
no_word_at t k r u (chosen v j n) = refl
no_word_at t k r u (ref w j n) = no_word_there t k (entry_at w j r.table)
no_word_at t k r u (mark i n) = refl

-- ---- other variants than the one that holds a word
pub other_operator : (k : ℕ) (r : Refers) (x : OperatorName) →
    ((a : SimpleOperatorName) → x ≡ of_operator.Simple a → ⊥) →
    false ≡ is_seen_word 0 k (see (world_of r) (find (world_of r) (Some (tree_of_operator_name x)) (0 ∷ [])))
other_operator k r (of_operator.Simple a) n = absurd (n a refl)
other_operator k r (of_operator.Cast a) n = sym (no_word_at 0 k r (tag_of_type_handle a) (parts_of_type_handle a))
other_operator k r (of_operator.Conversion a) n =
    sym (no_word_at 0 k r (tag_of_type_handle a) (parts_of_type_handle a))
other_operator k r (of_operator.Literal a) n = refl
other_operator k r (of_operator.VendorExtension a b) n = refl

pub other_builtin : (k : ℕ) (r : Refers) (x : BuiltinType) →
    ((a : StandardBuiltinType) → x ≡ of_builtin.Standard a → ⊥) →
    false ≡ is_seen_word 1 k (see (world_of r) (find (world_of r) (Some (tree_of_builtin_type x)) (0 ∷ [])))
other_builtin k r (of_builtin.Standard a) n = absurd (n a refl)
other_builtin k r (of_builtin.Parametric a) n =
    sym (no_word_at 1 k r (tag_of_parametric_builtin_type a) (parts_of_parametric_builtin_type a))
other_builtin k r (of_builtin.Extension a) n = refl

pub other_handle : (k : ℕ) (r : Refers) (x : TypeHandle) → ((a : BuiltinType) → x ≡ of_handle.Builtin a → ⊥) →
    ((i : ℕ) → x ≡ of_handle.BackReference i → ⊥) → false ≡ is_just (world_of r) (tree_of_type_handle x) k
other_handle k r (of_handle.WellKnown a) n m = refl
other_handle k r (of_handle.BackReference i) n m = absurd (m i refl)
other_handle k r (of_handle.Builtin a) n m = absurd (n a refl)
other_handle k r (of_handle.QualifiedBuiltin a) n m = refl

-- whether it is the literal of these bytes, of a builtin type
pub of_bytes : {asked : Bool} {bs cs : List ℕ} (w : World Core) (x : Core) (k : ℕ) (word : List ℕ) →
    asked ≡ (is_just w x k && bytes_eq word bs) → bs ≡ cs → asked ≡ (is_just w x k && bytes_eq word cs)
of_bytes w x k word e f = e ∙ ap (λ y. is_just w x k && bytes_eq word y) f
