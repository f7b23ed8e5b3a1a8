-- The table that three lists of the code are: the numbered components, the others, and for each of the others how many
-- numbered ones stood at its insertion.
use Rattle.std.specs.Prelude.{ℕ, ◌-◌, ◌≤◌, List, [], ◌∷◌, ◌++◌, take, drop, map}
use Rattle.std.specs.Coded.{×_prop, le_prop}
use Rattle.demangle_core.specs.Core.{Core, Which, N, U}
use Rattle.demangle_core.specs.Table.{Entry, Table}

abbrev pub all_of : Which → List Core → List Entry
all_of w xs = map (λ x. record { which = w; tree = x }) xs

-- From the numbered component `i` on.
abbrev pub woven : ℕ → List Core → List Core → List ℕ → Table
woven i first [] ks = all_of N first
woven i first (u ∷ us) [] = all_of N first
woven i first (u ∷ us) (k ∷ ks) = all_of N (take (k - i) first) ++ (record { which = U; tree = u } ∷ woven k (drop
    (k - i) first) us ks)

unfoldable pub table_from : {A : Type 0} → (A → Core) → List A → List A → List ℕ → Table
table_from tree ns us ks = woven 0 (map tree ns) (map tree us) ks

-- The counts rise from `i`, and none passes `n`.
abbrev pub Rise : ℕ → ℕ → List ℕ → Type 0
Rise i n [] = i ≤ n
Rise i n (k ∷ ks) = (i ≤ k) × Rise k n ks

-- None is below the one before it.
abbrev pub Climb : ℕ → List ℕ → Type 0
Climb i [] = Unit {0}
Climb i (k ∷ ks) = (i ≤ k) × Climb k ks

pub Rise-prop : (i n : ℕ) (ks : List ℕ) → IsProp (Rise i n ks)
Rise-prop i n [] = le_prop
Rise-prop i n (k ∷ ks) = ×_prop le_prop (Rise-prop k n ks)
