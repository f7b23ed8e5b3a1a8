-- What a builder keeps of the entries so far.
use Rattle.std.specs.Prelude.{◌≡◌, ℕ, Bool, true, false, cond, ◌||◌, List, [], ◌∷◌, ◌++◌, Some, None, is_some}
use Rattle.std.specs.Prelude.{String, Vec}
use Rattle.std.specs.BTreeMap.{BTreeMap, get_by_text}
use Rattle.std.specs.List.{list_any}
use Rattle.std.specs.Option.{option_map_or}
use Rattle.std.specs.Str.{bytes_eq}
use Rattle.std.specs.declared.alloc.Global.{Global}
use Rattle.demangle_groups.specs.Places.{Entry, Scope, is_in, is_refused, positions}
use Rattle.demangle_groups.specs.declared.builder.IndexBuilder.{IndexBuilder}
use Rattle.demangle_groups.specs.declared.index.Group.{Group}

abbrev pub Within : Type 0
Within = BTreeMap (String Global) (Vec ℕ Global)

-- ---- a map from a scope to its positions
abbrev pub positions_within : Within → List ℕ → List ℕ
positions_within m scope = option_map_or (λ v. v.items) (get_by_text m scope) []

abbrev pub has_within : Within → List ℕ → Bool
has_within m scope = is_some (get_by_text m scope)

-- the group of a scope of the map
abbrev pub group_at : String Global × Vec ℕ Global → Group
group_at e = record { scope = Some e.0; positions = e.1 }

-- one more position at a scope, which is then there; the others stay
pub record Adds (scope : List ℕ) (position : ℕ) (old new : Within) : Type 0 where
  pub positions : (q : List ℕ) → positions_within new q
      ≡ positions_within old q ++ cond (bytes_eq scope q) (position ∷ []) []
  pub has : (q : List ℕ) → has_within new q ≡ (has_within old q || bytes_eq scope q)

-- the same scopes with the same positions
pub record Stays (old new : Within) : Type 0 where
  pub positions : (q : List ℕ) → positions_within new q ≡ positions_within old q
  pub has : (q : List ℕ) → has_within new q ≡ has_within old q

-- ---- a builder
abbrev pub is_some_of : List ℕ → Bool
is_some_of [] = false
is_some_of (p ∷ ps) = true

abbrev pub positions_at : IndexBuilder → Scope → List ℕ
positions_at b None = b.without.items
positions_at b (Some scope) = positions_within b.within scope

abbrev pub has_at : IndexBuilder → Scope → Bool
has_at b None = is_some_of b.without.items
has_at b (Some scope) = has_within b.within scope

-- the group of the entries without a scope, where there are any
abbrev pub first_of : Vec ℕ Global → List ℕ → List Group
first_of v [] = []
first_of v (p ∷ ps) = record { scope = None; positions = v } ∷ []

abbrev pub first_groups : Vec ℕ Global → List Group
first_groups v = first_of v v.items

-- It keeps the positions of these entries, by scope.
pub record Keeps (b : IndexBuilder) (es : List Entry) : Type 0 where
  pub positions_are : (scope : Scope) → positions_at b scope ≡ positions (is_in scope) es
  pub has_are : (scope : Scope) → has_at b scope ≡ list_any (is_in scope) es
  pub refused_are : b.refused.items ≡ positions is_refused es
