-- What a memo claims of the trees beside it.
use Rattle.std.specs.Prelude.{◌≡◌, ◌⊎◌, ℕ, ◌≤◌, Bool, List, [], map, take, drop, reverse, length, Some, slice_get}
use Rattle.std.specs.Prelude.{◌==◌, not, nat_eq}
use Rattle.demangle_text.specs.Spot.{Spot}
use Rattle.demangle_core.specs.Core.{Core, Which, end}
use Rattle.demangle_core.specs.Table.{Table}
use Rattle.demangle_text.specs.Kind.{kind}
use Rattle.demangle_outline.specs.Outline.{outline}
use Rattle.demangle_grammar.specs.Fits.{AllOf}
use Rattle.demangle_grammar.specs.Rule.{Row}
use Rattle.demangle_grammar.specs.Code.{here, Found, Refused, cread}
use Rattle.demangle_cells.specs.Held.{held}
use Rattle.demangle_cells.specs.Ledger.{Stamps, ledger, IsChain, Stamped}
use Rattle.demangle_cells.specs.Reads.{ended}
use Rattle.demangle_cells.specs.Stored.{View, Holds, entry, which_of}
use Rattle.demangle_cells.specs.declared.memo.Memo as memo
use Rattle.demangle_cells.specs.declared.entry.Entry as made
use Rattle.demangle_cells.specs.declared.asked.Known as known
use Rattle.demangle_cells.specs.declared.asked.Outcome as outcome
use Rattle.demangle_cells.specs.declared.asked.Outcome.TheVariants as of_outcome
use Rattle.demangle_cells.specs.declared.asked.Stamp as stamp
use Rattle.demangle_cells.specs.declared.asked.RowName.{RowName}
use Rattle.demangle_cells.specs.declared.asked.RowName.TheVariants as of_row

abbrev pub row_of : RowName → Row
row_of of_row.TypeHandle = Row.type_handle
row_of of_row.Expression = Row.expression
row_of of_row.TemplateArg = Row.template_arg
row_of of_row.Name = Row.name
row_of of_row.Encoding = Row.encoding
row_of of_row.MangledName = Row.mangled_name
row_of of_row.TemplateArgs = Row.template_args

-- what a memo holds
pub record Memory : Type 0 where
  pub components : Stamps
  pub outlines : Stamps
  pub known : List known.Known
  pub text : List ℕ

abbrev pub memory : memo.Memo → Memory
memory m =
    record {
      components = ledger m.components;
      outlines = ledger m.outlines;
      known = held m.known;
      text = held m.text;
    }

-- ---- outlines
-- Of each component its list, and whether a nested name can take it over: an entry whose index is 1 or 0.
abbrev pub seen : made.Entry → Which × Bool
seen e = (which_of e.numbered, nat_eq e.id 1)

-- stamps of what a reading sees of the first components
pub record Outlined (v : View) (l : Stamps) : Type 0 where
  pub shapes : List made.Entry
  pub stamped : Stamped l shapes
  pub all : length shapes ≡ length l.stamps
  pub within : length shapes ≤ length v.entries
  pub sees : (F : ℕ → Core) → Holds F v → map seen shapes ≡ outline (map (entry F) (take (length shapes) v.entries))

-- None of the bytes that are left is an `S`, or this is what a reading sees of the components, the last of them first.
abbrev pub Sees : List ℕ → List made.Entry → Table → Type 0
Sees left shapes t = AllOf (λ b. not (b == 83)) left ⊎ (map seen (reverse shapes) ≡ outline t)

-- ---- what is known
-- the place at an index of these bytes
abbrev pub spot_in : List ℕ → ℕ → Spot
spot_in bytes at = record { index = at; left = drop at bytes }

-- Read again in that text, with as many levels or more, a row answers the same: what was found with these components
-- before it; a refusal, and where it ends, with any of which a reading sees the same.
abbrev pub IsKnownAs : List ℕ → (components outlines : List stamp.Stamp) → View → known.Known → outcome.Outcome
    → Type 0
IsKnownAs bytes components outlines v x (of_outcome.Found p behind) =
    (before : List made.Entry) × (es : List made.Entry) × (IsChain components x.key.before before
    × IsChain components behind es × ((levels : ℕ) → x.levels ≤ levels → (F : ℕ → Core) → Holds F v →
    cread levels (row_of x.key.row) x.key.conversion
    (here (spot_in bytes x.key.at) (map (entry F) (reverse before))) []
    ≡ Found (F p.id) (here (spot_in bytes p.end) (map (entry F) (reverse es)))))
IsKnownAs bytes components outlines v x (of_outcome.Refused e) =
    (shapes : List made.Entry) × (IsChain outlines x.key.before shapes
    × ((levels : ℕ) → x.levels ≤ levels → (F : ℕ → Core) → Holds F v → (t : Table) → Sees (drop x.key.at bytes) shapes t
    → cread levels (row_of x.key.row) x.key.conversion (here (spot_in bytes x.key.at) t) [] ≡ Refused (kind e)))
IsKnownAs bytes components outlines v x (of_outcome.Ended stop) =
    (shapes : List made.Entry) × (IsChain outlines x.key.before shapes
    × ((levels : ℕ) → x.levels ≤ levels → (F : ℕ → Core) → Holds F v → (t : Table) → Sees (drop x.key.at bytes) shapes t
    → ended (cread levels (row_of x.key.row) x.key.conversion (here (spot_in bytes x.key.at) t) [])
    ≡ Found end (here (spot_in bytes stop) [])))

abbrev pub IsKnown : (m : Memory) → View → known.Known → Type 0
IsKnown m v x = IsKnownAs m.text m.components.log m.outlines.log v x x.outcome

abbrev pub IsAmong : {A : Type 0} → A → List A → Type 0
IsAmong x xs = (k : ℕ) × (slice_get xs k ≡ Some x)

-- ---- a memo beside these trees
pub record IsMemo (v : View) (m : Memory) : Type 0 where
  pub stamped : Stamped m.components v.entries
  pub outlined : Outlined v m.outlines
  pub known : (x : known.Known) → IsAmong x m.known → IsKnown m v x
