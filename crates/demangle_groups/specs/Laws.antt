-- What holds of each index.
use Rattle.std.specs.Prelude.{◌≡◌, ℕ, ◌+◌, ◌<◌, Bool, true, false, List, [], ◌∷◌, length, nat_eq}
use Rattle.demangle_groups.specs.Places.{Entry, Group, Index, IsIndexOf}

abbrev pub one_more_if : Bool → ℕ → ℕ
one_more_if true n = n + 1
one_more_if false n = n

-- how often a position stands in a list, in groups, in an index
abbrev pub times : ℕ → List ℕ → ℕ
times k [] = 0
times k (p ∷ ps) = one_more_if (nat_eq k p) (times k ps)

abbrev pub times_in_groups : ℕ → List Group → ℕ
times_in_groups k [] = 0
times_in_groups k (g ∷ gs) = times k g.positions + times_in_groups k gs

abbrev pub times_in : ℕ → Index → ℕ
times_in k i = times k i.refused + times_in_groups k i.groups

-- Each position of the list stands once, in one group or among the refused ones.
abbrev pub StandsOnce : Type 0
StandsOnce = (es : List Entry) (i : Index) → IsIndexOf es i → (k : ℕ) → k < length es → times_in k i ≡ 1
