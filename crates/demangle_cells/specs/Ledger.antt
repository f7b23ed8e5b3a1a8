-- What the stamps of a list tell.
use Rattle.std.specs.Prelude.{◌≡◌, ℕ, zero, suc, ◌-◌, ◌<◌, ◌≤◌, List, [], ◌∷◌, take, reverse, length, Some, slice_get, ◌++◌}
use Rattle.std.specs.Prelude.{slice_index}
use Rattle.demangle_cells.specs.Held.{held}
use Rattle.demangle_cells.specs.declared.ledger.Ledger as of_ledger
use Rattle.demangle_cells.specs.declared.entry.Entry as made
use Rattle.demangle_cells.specs.declared.asked.Stamp as of_stamp

pub record Stamps : Type 0 where
  pub log : List of_stamp.Stamp
  pub stamps : List ℕ

abbrev pub ledger : of_ledger.Ledger → Stamps
ledger l = record { log = held l.log; stamps = held l.stamps }

-- a stamp tells this list, the last of it first
abbrev pub IsChain : List of_stamp.Stamp → ℕ → List made.Entry → Type 0
IsChain log s [] = s ≡ 0
IsChain log s (e ∷ es) =
    (b : ℕ) × ((0 < s) × (slice_get log (s - 1) ≡ Some (record { before = b; numbered = e.numbered; id = e.id }))
    × IsChain log b es)

-- the stamp of so many
abbrev pub stamp_at : ℕ → List ℕ → ℕ
stamp_at zero stamps = 0
stamp_at (suc k) stamps = slice_index stamps k

-- these are the stamps of the first of a list, of all or of fewer
pub record Stamped (l : Stamps) (list : List made.Entry) : Type 0 where
  pub few : length l.stamps ≤ length list
  pub each : (k : ℕ) → k ≤ length l.stamps → IsChain l.log (stamp_at k l.stamps) (reverse (take k list))

-- One more got a stamp that tells it behind those before it, be it a new one or one that the log had.
pub record NotesOnce (old new : Stamps) (e : made.Entry) : Type 0 where
  pub stamp : ℕ
  pub positive : 0 < stamp
  pub told : slice_get new.log (stamp - 1) ≡ Some (record {
    before = stamp_at (length old.stamps) old.stamps;
    numbered = e.numbered;
    id = e.id;
  })
  pub stamps : new.stamps ≡ old.stamps ++ stamp ∷ []
  pub more : List of_stamp.Stamp
  pub log : new.log ≡ old.log ++ more
