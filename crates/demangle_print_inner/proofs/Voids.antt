-- Types that are `void` by themselves.
use Rattle.std.proofs.Common.{◌≡◌, ◌==◌, ℕ, false, List, [], ◌∷◌, length, map, get_or, refl, sym, arith}
use Rattle.demangle_vocab.specs.declared.builtin.StandardBuiltinType.{StandardBuiltinType}
use Rattle.demangle_vocab.specs.declared.builtin.StandardBuiltinType.TheVariants as of_word
use Rattle.demangle_vocab.specs.Builtins.{number_of_builtin}
use Rattle.demangle_leaf_nodes.specs.declared.leaves.BuiltinType.{BuiltinType}
use Rattle.demangle_leaf_nodes.specs.declared.leaves.BuiltinType.TheVariants as of_builtin
use Rattle.demangle_leaf_nodes.specs.declared.leaves.TypeHandle.{TypeHandle}
use Rattle.demangle_leaf_nodes.specs.declared.leaves.TypeHandle.TheVariants as of_handle
use Rattle.demangle_leaf_nodes.specs.TreeLeaves.{parts_of_parametric_builtin_type, tag_of_parametric_builtin_type}
use Rattle.demangle_leaf_nodes.specs.TreeLeaves.{tree_of_type_handle}
use Rattle.demangle_printing.specs.Parameters.{is_void}
use Rattle.demangle_meets.specs.Place.{Refers, world_of}
use Rattle.demangle_print_parts.proofs.Components.{no_word}
use Rattle.demangle_print_inner.specs.Kinds.{is_void_builtin, is_void_tree, is_void_word}

-- a handle that holds a builtin type
pub void_builtin : (r : Refers) (x : BuiltinType) →
    is_void_builtin x ≡ is_void_tree (world_of r) (tree_of_type_handle (of_handle.Builtin x))
void_builtin r (of_builtin.Standard x) = by x
  where
    by : (x : StandardBuiltinType) → is_void_word x ≡ (0 == number_of_builtin x)
    by of_word.Void = refl
    by _ = refl
void_builtin r (of_builtin.Parametric x) =
    sym (no_word 0 r (tag_of_parametric_builtin_type x) (parts_of_parametric_builtin_type x))
void_builtin r (of_builtin.Extension x) = refl

-- no other handle holds one
pub no_void : (r : Refers) (x : TypeHandle) → ((a : BuiltinType) → x ≡ of_handle.Builtin a → ⊥) →
    ((k : ℕ) → x ≡ of_handle.BackReference k → ⊥) → false ≡ is_void_tree (world_of r) (tree_of_type_handle x)
no_void r (of_handle.WellKnown a) never away = refl
no_void r (of_handle.BackReference k) never away = absurd (away k refl)
no_void r (of_handle.Builtin a) never away = absurd (never a refl)
no_void r (of_handle.QualifiedBuiltin a) never away = refl

-- one type alone
pub void_alone : (r : Refers) (xs : List TypeHandle) (d : TypeHandle) → length xs ≡ 1 →
    is_void_tree (world_of r) (tree_of_type_handle (get_or xs 0 d)) ≡ is_void (world_of r) (map tree_of_type_handle xs)
void_alone r [] d e = absurd (cc e)
void_alone r (x ∷ []) d e = refl
void_alone r (x ∷ y ∷ ys) d e = absurd (omega (arith, e))

pub no_void_alone : (r : Refers) (xs : List TypeHandle) → (length xs ≡ 1 → ⊥) →
    false ≡ is_void (world_of r) (map tree_of_type_handle xs)
no_void_alone r [] never = refl
no_void_alone r (y ∷ []) never = absurd (never refl)
no_void_alone r (y ∷ z ∷ zs) never = refl
