-- Alternatives that the next bytes leave, beside those of the forms.
use Rattle.std.proofs.Common.{◌≡◌, refl, arith, ℕ, zero, suc, ◌≤◌, Bool, false, List, [], ◌∷◌, Ok}
use Rattle.demangle_text.specs.Spot.{Spot}
use Rattle.demangle_core.specs.Table.{Table}
use Rattle.demangle_vocab.specs.Builtins.{builtin_words}
use Rattle.demangle_vocab.specs.WordTable.{table_from}
use Rattle.demangle_grammar.specs.Rule.{Row}
use Rattle.demangle_grammar.specs.Rows.{rule}
use Rattle.demangle_grammar.specs.Items.{these}
use Rattle.demangle_grammar.specs.Reading.{next_is}
use Rattle.demangle_grammar.specs.First.{takes_in, first_in, idle_in, first, Misses}
use Rattle.demangle_grammar.specs.Code.{Here, here, Found, cread}
use Rattle.demangle_forms.specs.TypeForms.{type_handle_at}
use Rattle.demangle_forms.proofs.Missed.{row_missed, row_passed, passed_on}
use Rattle.demangle_cells.specs.Fixed.{builtin_tree}
use Rattle.demangle_read_types.specs.Arguments.{primary_at, typed_at}

-- a builtin type that is a word, where both its levels are left
pub builtin_first : (f : ℕ) (c : Bool) (p q : Spot) (e : Table) (k : ℕ) → 2 ≤ f
    → table_from builtin_words p ≡ Ok (k, q)
    → type_handle_at (cread f) c (here p e) ≡ Found (builtin_tree k) (here q e)
unfolding type_handle_at cread rule
builtin_first zero c p q e k l h = absurd (omega (arith, l))
builtin_first (suc zero) c p q e k l h = absurd (omega (arith, l))
builtin_first (suc (suc f)) c p q e k l h = rw h refl

-- no literal begins with another byte than `L`
pub no_primary : (f : ℕ) (c : Bool) (s : Here) → 1 ≤ f → next_is (these "L") s.spot.left ≡ false
    → primary_at (cread f) c s ≡ typed_at (cread f) c s
unfolding primary_at rule takes_in first_in idle_in
no_primary f c s l e =
    passed_on _ _ (row_passed (cread f Row.expr_primary c s []) _
    (row_missed Row.expr_primary f c s refl l (misses s.spot.left e)))
  where
    misses : (bs : List ℕ) → next_is (these "L") bs ≡ false → Misses (first Row.expr_primary) bs
    misses [] e = tt
    misses (b ∷ bs) e = e
