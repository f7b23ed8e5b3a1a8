-- What a reading of a row can see of the components that are there before it.
use Rattle.std.specs.Prelude.{◌⊎◌, ◌≡◌, ◌≢◌, ◌≤◌, ℕ, Bool, List, [], map, ◌==◌, not}
use Rattle.demangle_core.specs.Core.{Core, Which}
use Rattle.demangle_core.specs.Table.{Table}
use Rattle.demangle_text.specs.Kind.{Kind}
use Rattle.demangle_text.specs.Kind as kind
use Rattle.demangle_text.specs.Spot.{Spot}
use Rattle.demangle_grammar.specs.Rule.{Row}
use Rattle.demangle_grammar.specs.Fits.{AllOf}
use Rattle.demangle_grammar.specs.Reading.{is_nestable}
use Rattle.demangle_grammar.specs.Code.{Here, here, Reply, Found, Refused, cread}

-- of each component its list, and whether a nested name can take it over
abbrev pub outline : Table → List (Which × Bool)
outline t = map (λ e. (e.which, is_nestable e.tree)) t

-- None of the bytes that are left is an `S`, or both tables have one outline.
abbrev pub Agree : (left : List ℕ) → Table → Table → Type 0
Agree left t u = AllOf (λ b. not (b == 83)) left ⊎ (outline t ≡ outline u)

-- a row that is read with no parts before it
abbrev pub read : (levels : ℕ) → Row → Bool → Here → Reply
read levels row conv s = cread levels row conv s []

-- Where a row is refused, it is refused for the same with any table that agrees.
abbrev pub SameRefusals : Type 0
SameRefusals = (levels : ℕ) (row : Row) (conv : Bool) (spot : Spot) (t u : Table) (k : Kind) → Agree spot.left t u →
    read levels row conv (here spot t) ≡ Refused k → read levels row conv (here spot u) ≡ Refused k

-- Where one is found, one is found that ends at the same place, and the tables agree behind both.
abbrev pub SameEnds : Type 0
SameEnds = (levels : ℕ) (row : Row) (conv : Bool) (spot : Spot) (t u : Table) (x : Core) (h : Here) →
    Agree spot.left t u → read levels row conv (here spot t) ≡ Found x h →
    (y : Core) × (g : Here) × (read levels row conv (here spot u) ≡ Found y g)
    × (g.spot ≡ h.spot) × Agree g.spot.left h.table g.table

-- What isn't refused for its depth is read in the same way with more levels.
abbrev pub MoreLevels : Type 0
MoreLevels = (levels more : ℕ) (row : Row) (conv : Bool) (s : Here) → levels ≤ more →
    read levels row conv s ≢ Refused kind.Deep → read more row conv s ≡ read levels row conv s
