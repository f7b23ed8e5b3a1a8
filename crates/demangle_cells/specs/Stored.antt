-- What contracts see of the trees of a name: its cells, its list of indexes, the components of the name that is read,
-- and the indexes that wait to become a list.
use Rattle.std.specs.Prelude.{◌≡◌, ℕ, ◌<◌, ◌≤◌, Bool, true, false, List, map, take, drop, length}
use Rattle.demangle_core.specs.Core.{Core, Which, N, U}
use Rattle.demangle_core.specs.Table.{Entry, Table}
use Rattle.demangle_cells.specs.Fixed.{fixed, first_cell, first_reference}
use Rattle.demangle_cells.specs.Cells.{holds_from}
use Rattle.demangle_cells.specs.Entries.{ids_of}
use Rattle.demangle_cells.specs.Held.{held}
use Rattle.demangle_cells.specs.declared.plain.Plain.{Plain}
use Rattle.demangle_cells.specs.declared.store.Store.{Store}
use Rattle.demangle_cells.specs.declared.entry.Entry as made
use Rattle.demangle_cells.specs.declared.entry.Mark as mark

pub record View : Type 0 where
  pub cells : List Plain
  pub list : List ℕ
  pub entries : List made.Entry
  pub waiting : List ℕ

unfoldable pub stored : Store → View
stored a = record { cells = held a.cells; list = held a.list; entries = held a.entries; waiting = held a.waiting }

-- F says what each index stands for: those of the cells, and those that are the same everywhere.
pub record Holds (F : ℕ → Core) (v : View) : Type 0 where
  pub cells : holds_from F v.list first_cell v.cells
  pub constants : (k : ℕ) → k < first_cell → F k ≡ fixed k
  pub references : (k : ℕ) → first_reference ≤ k → F k ≡ fixed k

abbrev pub which_of : Bool → Which
which_of true = N
which_of false = U

abbrev pub entry : (ℕ → Core) → made.Entry → Entry
entry F e = record { which = which_of e.numbered; tree = F e.id }

-- the components, in the order in which they were completed
unfoldable pub table : (ℕ → Core) → View → Table
table F v = map (entry F) v.entries

-- Nothing was taken away: whoever says what the cells stand for behind it says it of those before it.
pub record Grown (old new : View) : Type 0 where
  pub holds : (F : ℕ → Core) → Holds F new → Holds F old
  pub entries : take (length old.entries) new.entries ≡ old.entries
  pub waiting : new.waiting ≡ old.waiting

-- nothing was taken away, whatever waits
pub record KeepsTrees (old new : View) : Type 0 where
  pub holds : (F : ℕ → Core) → Holds F new → Holds F old
  pub entries : new.entries ≡ old.entries

-- more may wait, behind what waited before
pub record Waited (old new : View) : Type 0 where
  pub holds : (F : ℕ → Core) → Holds F new → Holds F old
  pub entries : take (length old.entries) new.entries ≡ old.entries
  pub waiting : take (length old.waiting) new.waiting ≡ old.waiting

-- what waits since then
abbrev pub since : (old new : View) → List ℕ
since old new = drop (length old.waiting) new.waiting

-- ---- how many components there are
pub record IsMark (v : View) (m : mark.Mark) : Type 0 where
  pub entries : m.entries ≡ length v.entries
  pub numbered : m.numbered ≡ length (ids_of true v.entries)
  pub others : m.others ≡ length (ids_of false v.entries)

-- there were so many at some time
pub record FitsMark (v : View) (m : mark.Mark) : Type 0 where
  pub numbered : m.numbered ≡ length (ids_of true (take m.entries v.entries))
  pub others : m.others ≡ length (ids_of false (take m.entries v.entries))

-- the components cut back to the mark
pub record IsCut (m : mark.Mark) (old new : View) : Type 0 where
  pub cells : new.cells ≡ old.cells
  pub list : new.list ≡ old.list
  pub entries : new.entries ≡ take m.entries old.entries
  pub waiting : new.waiting ≡ old.waiting
