-- What the calls that print a name's tree answer, by what the printing tells.
use Rattle.std.specs.Prelude.{◌≡◌, ◌⊎◌, ℕ, ◌≤◌, List, [], ◌++◌, Option, Some, None, Result, Ok, Err, String}
use Rattle.std.specs.Prelude.{string_bytes}
use Rattle.std.specs.declared.alloc.Global.{Global}
use Rattle.demangle_core.specs.Core.{Core}
use Rattle.demangle_core.specs.Table.{Table}
use Rattle.demangle_printing.specs.State.{Event, Fault}
use Rattle.demangle_printing.specs.Trees.{with_table}
use Rattle.demangle_printing.specs.Outcome.{Options, printed, text_of}
use Rattle.demangle_printing.specs.Laws.{AreClosed, open_behind, told}
use Rattle.demangle_meets.specs.Seen.{Seen, Told}
use Rattle.demangle_meets.specs.Goes.{ends, Rose}
use Rattle.demangle_context.specs.Room.{most_items}
use Rattle.demangle_context.specs.TroubleOf.{error_at}
use Rattle.demangle_context.specs.declared.error.DemangleError.{DemangleError}
use Rattle.demangle_context.specs.declared.error.DemangleError.TheVariants as error

-- The events, and the fault behind them.
abbrev pub Telling : Type 0
Telling = List Event × Option Fault

-- what the printing of a tree tells, with its table and its input
abbrev pub telling : Table → List ℕ → Options → Core → Telling
telling table input o x = told (printed (with_table table input) o x)

-- ---- a listener
-- It was told all events, each text in pieces that aren't empty; each node that begins ends.
pub record TellsAll (old new : Seen) (t : Telling) : Type 0 where
  pub no_fault : t.1 ≡ None
  pub told : Told old new t.0
  pub are_closed : AreClosed t.0

-- It was told a front of the events, and then ends of nodes, no more than stood open.
pub record Breaks (old new : Seen) (t : Telling) : Type 0 where
  pub front : List Event
  pub others : List Event
  pub ended : ℕ
  pub stand_open : ℕ
  pub is : t.0 ≡ front ++ others
  pub told : Told old new (front ++ ends ended)
  pub are_open : open_behind front (Some 0) ≡ Some stand_open
  pub no_more : ended ≤ stand_open

-- It met the fault: all events before it were told, and then ends of nodes, no more than stood open.
pub record Stops (old new : Seen) (t : Telling) (e : DemangleError) : Type 0 where
  pub fault : Fault
  pub is : error_at fault ≡ e
  pub met : t.1 ≡ Some fault
  pub ended : ℕ
  pub stand_open : ℕ
  pub told : Told old new (t.0 ++ ends ended)
  pub are_open : open_behind t.0 (Some 0) ≡ Some stand_open
  pub no_more : ended ≤ stand_open

-- The listener failed, as its count of failures says.
pub record Fails (old new : Seen) (t : Telling) : Type 0 where
  pub breaks : Breaks old new t
  pub rose : Rose old.faults new.faults

-- There was no memory: the listener had none, as its count of refusals says, or it was told nothing; unless there are
-- more levels than the context has room for items.
pub record Lacks (old new : Seen) (limit : ℕ) (t : Telling) : Type 0 where
  pub breaks : Breaks old new t
  pub rose : limit ≤ most_items → Rose old.refusals new.refusals ⊎ Told old new []

abbrev pub Ends : (old new : Seen) (limit : ℕ) → Telling → Result (Unit {0}) DemangleError → Type 0
Ends old new limit t (Ok v) = TellsAll old new t
Ends old new limit t (Err error.Sink) = Fails old new t
Ends old new limit t (Err error.OutOfMemory) = Lacks old new limit t
Ends old new limit t (Err e) = Stops old new t e

-- So it ended; and neither of the listener's counts rose for another cause.
pub record Tells (old new : Seen) (limit : ℕ) (t : Telling) (r : Result (Unit {0}) DemangleError) : Type 0 where
  pub ends : Ends old new limit t r
  pub faults : (r ≡ Err error.Sink → ⊥) → new.faults ≡ old.faults
  pub refusals : (r ≡ Err error.OutOfMemory → ⊥) → new.refusals ≡ old.refusals

-- ---- a text
-- It met this fault.
pub record Meets (t : Telling) (e : DemangleError) : Type 0 where
  pub fault : Fault
  pub is : error_at fault ≡ e
  pub met : t.1 ≡ Some fault

-- The text of all events; or the fault, or there was no memory.
abbrev pub IsText : Telling → Result (String Global) DemangleError → Type 0
IsText t (Ok text) = (t.1 ≡ None) × (string_bytes text ≡ text_of t.0)
IsText t (Err error.OutOfMemory) = Unit {0}
IsText t (Err e) = Meets t e
