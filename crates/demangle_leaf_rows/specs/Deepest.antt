-- The deepest level that a reading of a row enters.
use Rattle.std.specs.Prelude.{◌≡◌, max, false, Result, Ok, Err}
use Rattle.demangle_text.specs.Kind.{kind, ends}
use Rattle.demangle_text.specs.Spot.{Spot, spot}
use Rattle.demangle_text.specs.declared.index_str.IndexStr.{IndexStr}
use Rattle.demangle_text.specs.declared.error.Error.{Error}
use Rattle.demangle_core.specs.Table.{Table}
use Rattle.demangle_grammar.specs.Rule.{Row}
use Rattle.demangle_grammar.specs.Reading.{State}
use Rattle.demangle_grammar.specs.Laws.{reach}
use Rattle.demangle_leaf_rows.specs.Context.{Context}

-- where the reading of trees stands, with these components
abbrev pub state_at : Spot → Table → State
state_at p table = record { at = p.index; rest = p.left; entries = table }

-- The row was read, or it was refused for what the bytes are: no level and no memory was wanting.
abbrev pub IsRead : {X : Type 0} → Result X Error → Type 0
IsRead (Ok x) = Unit {0}
IsRead (Err e) = ends (kind e) ≡ false

-- The deepest level is what it was, or the deepest one that the row's reading without a limit enters, alternatives
-- that are only tried among them: the deeper of both.
abbrev pub Deepens : {X : Type 0} → Row → (old new : Context) → IndexStr → Result X Error → Table → Type 0
Deepens row old new input result table =
    IsRead result → new.deepest ≡ max old.deepest (reach old.level row old.conversion (state_at (spot input) table))

-- whatever the table is: for a row that looks at no component
abbrev pub DeepensLeaf : {X : Type 0} → Row → (old new : Context) → IndexStr → Result X Error → Type 0
DeepensLeaf row old new input result = (table : Table) → Deepens row old new input result table
