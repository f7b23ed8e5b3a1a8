-- What the word comes to for a job that was done from page to page, as the calls of printing need it.
use Rattle.std.specs.Prelude.{◌≡◌, ℕ, ◌+◌, ◌≤◌, ◌<◌, List, ◌++◌, length, Option, Some, None, option_map}
use Rattle.demangle_core.specs.Core.{Core}
use Rattle.demangle_printing.specs.State.{Event, Fault, Held, State, Answer, yes, no}
use Rattle.demangle_printing.specs.Outcome.{text_of}
use Rattle.demangle_printing.specs.Scope.{Scope}
use Rattle.demangle_printing.specs.Act.{Job, done, call}
use Rattle.demangle_printing.specs.Laws.{AreClosed, open_behind, IsFitting, IsReady, Leaves}
use Rattle.demangle_meets.specs.Seen.{Call, Seen, events_of, HaveText, Told, LastChar}
use Rattle.demangle_meets.specs.Page.{Page, fault, lost, Loss, failed, refused, full, at}
use Rattle.demangle_meets.specs.Goes.{ends, Rose}
use Rattle.demangle_meets.specs.Place.{Place}
use Rattle.demangle_meets.specs.Meets.{deeper, Meets}

-- ---- what a listener tells
-- A listener that tells its calls told them before, and has heard the events behind them, in calls of which no piece is
-- empty.
pub record HeardCalls (old : Seen) (calls : List Call) (m : List Event) : Type 0 where
  pub before : List Call
  pub more : List Call
  pub was : old.calls ≡ Some before
  pub is : calls ≡ before ++ more
  pub are : events_of more ≡ m
  pub have_text : HaveText more
  pub events : events_of calls ≡ events_of before ++ m

abbrev pub TellsCalls : Type 0
TellsCalls = (old new : Seen) (m : List Event) (calls : List Call) → Told old new m → new.calls ≡ Some calls →
    HeardCalls old calls m

-- One that tells its text told it before, and has the text of the events behind it.
pub record HeardText (old : Seen) (text : List ℕ) (m : List Event) : Type 0 where
  pub before : List ℕ
  pub was : old.text ≡ Some before
  pub is : text ≡ before ++ text_of m

abbrev pub TellsText : Type 0
TellsText = (old new : Seen) (m : List Event) (text : List ℕ) → Told old new m → new.text ≡ Some text →
    HeardText old text m

-- ---- room on the stacks
-- Where an item is put on a stack at a level that is above those of all items, there are no more items than that level.
-- So stacks with room for as many items as there are levels never lack any.
abbrev pub StacksSuffice : Type 0
StacksSuffice = (aside : List (Held Core)) (s : State Core) → IsReady aside s →
    length aside + (length s.inner + length s.kept) ≤ s.level

-- Whose loss it is: the listener's count of failures rose, or that of refusals; or of nobody.
abbrev pub IsListeners : Loss → Page → Page → Type 0
IsListeners failed a b = Rose a.seen.faults b.seen.faults
IsListeners refused a b = Rose a.seen.refusals b.seen.refusals
IsListeners full a b = ⊥

-- Where no two items have one level and none is above the line's, and the stacks have room for as many items as there
-- are levels, no stack lacks room, and what is lost is lost by the listener, whose count says so.
abbrev pub LosesByListener : Type 0
LosesByListener = (p : Place) (a b : Page) (j : Job Core) (sc : Scope Core) (c : Loss) →
    Meets p a b (call j sc done) → a.trouble ≡ None → IsFitting a.aside (at p.level a) →
    p.level + p.left < a.fixed.reserved → b.trouble ≡ Some (lost c) → IsListeners c a b

-- And where no trouble comes, it is so again.
abbrev pub LeavesFitting : Type 0
LeavesFitting = (p : Place) (a b : Page) (j : Job Core) (sc : Scope Core) → Meets p a b (call j sc done) →
    a.trouble ≡ None → IsFitting a.aside (at p.level a) → b.trouble ≡ None → IsFitting b.aside (at p.level b)

-- Where the listener didn't fail, its count of failures is as before; so is that of refusals where it wasn't refused
-- memory.
abbrev pub CountsStay : Type 0
CountsStay = (p : Place) (a b : Page) (j : Job Core) (sc : Scope Core) → Meets p a b (call j sc done) →
    a.trouble ≡ None →
    ((b.trouble ≡ Some (lost failed) → ⊥) → b.seen.faults ≡ a.seen.faults)
    × ((b.trouble ≡ Some (lost refused) → ⊥) → b.seen.refusals ≡ a.seen.refusals)

-- ---- what is left
-- Without trouble the kept items and those that are set aside are as before, and of the inner items some are left, in
-- their order.
pub record LeavesItems (p : Place) (a b : Page) : Type 0 where
  pub leaves : Leaves (at p.level a) (at p.level b)
  pub aside : b.aside ≡ a.aside

abbrev pub LeavesSome : Type 0
LeavesSome = (p : Place) (a b : Page) (j : Job Core) (sc : Scope Core) → Meets p a b (call j sc done) →
    a.trouble ≡ None → b.trouble ≡ None → LeavesItems p a b

-- What is fixed stays so, with trouble too.
abbrev pub StaysFixed : Type 0
StaysFixed = (p : Place) (a b : Page) (j : Job Core) (sc : Scope Core) → Meets p a b (call j sc done) →
    b.fixed ≡ a.fixed

-- ---- what was told
-- All of it was told, each node that begins ends, and the last character is that of the text.
pub record WasTold (a b : Page) (x : Answer Core) (s : State Core) : Type 0 where
  pub all : List Event
  pub is : x ≡ yes all s
  pub told : Told a.seen b.seen all
  pub last : LastChar (text_of all) a.last_char b.last_char
  pub are_closed : AreClosed all

-- The events before the fault, and then ends of nodes, no more than stand open there.
pub record WasStopped (old new : Seen) (x : Answer Core) (f : Fault) : Type 0 where
  pub before : List Event
  pub ended : ℕ
  pub stand_open : ℕ
  pub is : x ≡ no before f
  pub told : Told old new (before ++ ends ended)
  pub are_open : (n : ℕ) → open_behind before (Some n) ≡ Some (stand_open + n)
  pub no_more : ended ≤ stand_open

abbrev pub TellsInOrder : Type 0
TellsInOrder = (p : Place) (a b : Page) (j : Job Core) (sc : Scope Core) → Meets p a b (call j sc done) →
    a.trouble ≡ None →
    (b.trouble ≡ None → WasTold a b (deeper p j sc (at p.level a)) (at p.level b))
    × ((f : Fault) → b.trouble ≡ Some (fault f) → WasStopped a.seen b.seen (deeper p j sc (at p.level a)) f)

-- ---- why it stopped
-- the fault of an answer
abbrev pub fault_in : Answer Core → Option Fault
fault_in (yes m s) = None
fault_in (no m f) = Some f

-- Where nothing was lost, the trouble is the answer's fault, or none where it has none.
abbrev pub StopsExactly : Type 0
StopsExactly = (p : Place) (a b : Page) (j : Job Core) (sc : Scope Core) → Meets p a b (call j sc done) →
    a.trouble ≡ None → ((c : Loss) → b.trouble ≡ Some (lost c) → ⊥) →
    b.trouble ≡ option_map fault (fault_in (deeper p j sc (at p.level a)))
