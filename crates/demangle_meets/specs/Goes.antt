-- The one relation between two pages: from the first to the second this was done, whole or up to the first trouble.
use Rattle.std.specs.Prelude.{◌≡◌, ℕ, zero, suc, ◌+◌, ◌≤◌, ◌<◌, ◌⊎◌, List, [], ◌∷◌, ◌++◌, Option, Some, None}
use Rattle.demangle_core.specs.Core.{Core}
use Rattle.demangle_printing.specs.State.{Event, closed, Fault, State, Answer, yes, no}
use Rattle.demangle_printing.specs.Outcome.{text_of}
use Rattle.demangle_printing.specs.Laws.{open_behind}
use Rattle.demangle_meets.specs.Seen.{Seen, Told, LastChar}
use Rattle.demangle_meets.specs.Page.{Page, Trouble, fault, lost, Loss, failed, refused, full, at}
use Rattle.demangle_meets.specs.Place.{Place}

-- ---- what a listener was told
-- All of it, and this is the state that is left, with the last character.
pub record Whole (a b : Page) (x : Answer Core) (s : State Core) : Type 0 where
  pub all : List Event
  pub is : x ≡ yes all s
  pub told : Told a.seen b.seen all
  pub last : LastChar (text_of all) a.last_char b.last_char

-- so many nodes end
abbrev pub ends : ℕ → List Event
ends zero = []
ends (suc k) = closed ∷ ends k

-- Behind these events so many nodes stand open, or more.
abbrev pub StandOpen : ℕ → List Event → Type 0
StandOpen k m = (n j : ℕ) → open_behind m (Some n) ≡ Some j → k ≤ j

abbrev pub events : {X : Type 0} → Answer X → List Event
events (yes m s) = m
events (no m f) = m

-- The events before the fault, and then ends of nodes, no more than stood open.
pub record Stopped (old new : Seen) (x : Answer Core) (f : Fault) : Type 0 where
  pub before : List Event
  pub ended : ℕ
  pub is : x ≡ no before f
  pub told : Told old new (before ++ ends ended)
  pub were_open : StandOpen ended before

-- A front of the events, and then ends of nodes, no more than stood open.
pub record Cut (old new : Seen) (x : Answer Core) : Type 0 where
  pub front : List Event
  pub others : List Event
  pub ended : ℕ
  pub is : events x ≡ front ++ others
  pub told : Told old new (front ++ ends ended)
  pub were_open : StandOpen ended front

-- ---- the listener's counts
-- the last value of a count, at which it stays
abbrev pub last_count : ℕ
last_count = 18446744073709551615

abbrev pub Rose : (old new : ℕ) → Type 0
Rose old new = (old < new) ⊎ (new ≡ last_count)

-- Where the listener failed, its count of these rose or stands at its last value; where it didn't, the count is as
-- before.
pub record Counts (why : Loss) (old new : ℕ) (before now : Option Trouble) : Type 0 where
  pub rose : before ≡ None → now ≡ Some (lost why) → Rose old new
  pub same : before ≡ None → (now ≡ Some (lost why) → ⊥) → new ≡ old
  pub stays : (t : Trouble) → before ≡ Some t → new ≡ old

-- ---- the relation
-- From a to b, at a place, this was done. Without trouble the listener was told all of it, and b is the state that it
-- leaves. Where it met a fault, the events before the fault were told; where something was lost, a front of all of
-- them. After trouble nothing is told, and the trouble stays. A stack has no room only where an item was put on it at a
-- level that isn't above those of all items (`ready` says that it is above them wherever that is done), or where there
-- are more levels than the stacks have room for.
pub record Goes (p : Place) (a b : Page) (go : State Core → Answer Core) (ready : Type 0) : Type 0 where
  pub done : a.trouble ≡ None → b.trouble ≡ None → Whole a b (go (at p.level a)) (at p.level b)
  pub stopped : (f : Fault) → a.trouble ≡ None → b.trouble ≡ Some (fault f) →
      Stopped a.seen b.seen (go (at p.level a)) f
  pub cut : (c : Loss) → a.trouble ≡ None → b.trouble ≡ Some (lost c) → Cut a.seen b.seen (go (at p.level a))
  pub fits : a.trouble ≡ None → b.trouble ≡ Some (lost full) → ready → a.fixed.reserved ≤ p.level + p.left
  pub fixed : b.fixed ≡ a.fixed
  pub faults : Counts failed a.seen.faults b.seen.faults a.trouble b.trouble
  pub refusals : Counts refused a.seen.refusals b.seen.refusals a.trouble b.trouble
  pub stays : (t : Trouble) → a.trouble ≡ Some t → Told a.seen b.seen [] × (b.trouble ≡ Some t)
