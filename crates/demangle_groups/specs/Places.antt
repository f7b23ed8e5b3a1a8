-- Where the entries of a list stand, by their scopes.
use Rattle.std.specs.Prelude.{◌≡◌, ℕ, ◌+◌, Bool, true, false, cond, List, [], ◌∷◌, map, Option, Some, None}
use Rattle.std.specs.Cmp.Lexicographic.{slice_cmp}
use Rattle.std.specs.List.{All, list_any}
use Rattle.std.specs.List.Sorted.{IsStrictlySortedBy}
use Rattle.std.specs.Option.{option_cmp, option_eq}
use Rattle.std.specs.Ordering.{nat_cmp}
use Rattle.std.specs.Str.{bytes_eq}
use Rattle.std.specs.declared.cmp.Ordering.{Ordering}

-- the bytes of a scope; nothing for none
abbrev pub Scope : Type 0
Scope = Option (List ℕ)

-- an entry is in a scope, or in none; or it is refused
abbrev pub Entry : Type 0
Entry = Option Scope

abbrev pub is_refused : Entry → Bool
is_refused None = true
is_refused (Some s) = false

abbrev pub is_in : Scope → Entry → Bool
is_in scope None = false
is_in scope (Some s) = option_eq bytes_eq s scope

-- the positions of those that pass a test, rising; the first stands at `first`
abbrev pub positions_from : {A : Type 0} → (first : ℕ) → (A → Bool) → List A → List ℕ
positions_from first test [] = []
positions_from first test (x ∷ xs) =
    cond (test x) (first ∷ positions_from (first + 1) test xs) (positions_from (first + 1) test xs)

abbrev pub positions : {A : Type 0} → (A → Bool) → List A → List ℕ
positions test xs = positions_from 0 test xs

-- ---- an index
pub record Group : Type 0 where
  pub scope : Scope
  pub positions : List ℕ

pub record Index : Type 0 where
  pub groups : List Group
  pub refused : List ℕ

-- no scope stands before all scopes, which stand by their bytes
abbrev pub scope_cmp : Scope → Scope → Ordering
scope_cmp = option_cmp (slice_cmp nat_cmp)

abbrev pub scopes : Index → List Scope
scopes i = map (λ g. g.scope) i.groups

-- The groups rise by scope, so each scope has one at most.
abbrev pub Rises : Index → Type 0
Rises i = IsStrictlySortedBy scope_cmp (scopes i)

-- Each group has the positions of the entries of its scope, rising.
abbrev pub Gathers : List Entry → Index → Type 0
Gathers es i = All (λ g. g.positions ≡ positions (is_in g.scope) es) i.groups

-- Exactly the scopes of entries have groups.
abbrev pub HasScopes : List Entry → Index → Type 0
HasScopes es i = (scope : Scope) → list_any (option_eq bytes_eq scope) (scopes i) ≡ list_any (is_in scope) es

-- The refused positions are those of the refused entries, rising.
abbrev pub Refuses : List Entry → Index → Type 0
Refuses es i = i.refused ≡ positions is_refused es

pub record IsIndexOf (es : List Entry) (i : Index) : Type 0 where
  pub rises : Rises i
  pub gathers : Gathers es i
  pub has_scopes : HasScopes es i
  pub refuses : Refuses es i
