-- What the public calls of printing do, from the context as it was to the context as it is.
use Rattle.std.specs.Prelude.{◌≡◌, ℕ, ◌≤◌, ◌<◌, Bool, true, false, List, [], ◌++◌, Option, Some, None, Result, Ok, Err}
use Rattle.demangle_core.specs.Core.{Core}
use Rattle.demangle_printing.specs.State.{Event, Fault, State, Answer, yes}
use Rattle.demangle_printing.specs.Scope.{Scope}
use Rattle.demangle_printing.specs.Act.{line}
use Rattle.demangle_printing.specs.Rules.{of_part, inside_of}
use Rattle.demangle_printing.specs.Outcome.{text_of}
use Rattle.demangle_printing.specs.Declarators.{Plain, is_type, Is, declared, PrintsDeclared}
use Rattle.demangle_printing.specs.Laws.{open_behind, IsFitting}
use Rattle.demangle_meets.specs.Seen.{Seen, Told}
use Rattle.demangle_meets.specs.Page.{Fixed, Page, at}
use Rattle.demangle_meets.specs.Place.{Place, world_of}
use Rattle.demangle_meets.specs.Goes.{events, ends, Rose}
use Rattle.demangle_meets.specs.Meets.{deeper}
use Rattle.demangle_meets.specs.Laws.{WasTold, WasStopped, LeavesItems}
use Rattle.demangle_context.specs.declared.error.DemangleError.{DemangleError}
use Rattle.demangle_context.specs.declared.error.DemangleError.TheVariants as error
use Rattle.demangle_context.specs.Room.{most_items, reserve}
use Rattle.demangle_context.specs.TroubleOf.{error_at}
use Rattle.demangle_lines_tied.specs.PlaceOf.{place_in}

abbrev pub Reply : Type 0
Reply = Result (Unit {0}) DemangleError

-- ---- where printing begins
-- a page on which printing may begin: an earlier trouble is forgotten
abbrev pub begun : Page → Page
begun a = record a { trouble = None }

-- Printing may begin at this place: a level is left, the stacks have the room that contexts reserve, and the law on
-- declarators holds.
pub record Begun (a b : Page) (p : Place) : Type 0 where
  pub page : b ≡ begun a
  pub place : p ≡ place_in a.fixed
  pub below : a.fixed.level < a.fixed.limit
  pub reserved : a.fixed.reserved ≡ reserve a.fixed.limit
  pub law : PrintsDeclared Core

-- the state of a context
abbrev pub state : Page → State Core
state a = at a.fixed.level a

-- ---- what is printed
-- the line of a tree that is printed for a part, where there is one
abbrev pub line_at : Place → Option Core → Scope Core → State Core → Answer Core
line_at p None sc s = yes [] s
line_at p (Some x) sc s = deeper p (line x) sc s

-- The line of a tree; of a handle and of what else holds a part, the line of what it holds or refers to.
abbrev pub printed_line : Fixed → Core → Scope Core → State Core → Answer Core
printed_line f x sc s = line_at (place_in f) (of_part (world_of f.refers) (Some x)) sc s

-- what of an item stands behind
abbrev pub printed_inside : Fixed → Core → Scope Core → State Core → Answer Core
printed_inside f x sc s =
    deeper (place_in f) (inside_of (world_of f.refers) sc x).0 (inside_of (world_of f.refers) sc x).1 s

-- ---- how a call ends, where `x` is what the definition says
-- All was printed: the listener was told all events, in which each node that begins ends, and the context is as the
-- definition leaves it, with the last character of the text. The items that are kept and those that are set aside are
-- as before, and of the inner items some are left, in their order. Where no two items had one level, and none a level
-- above the context's, it is so again.
pub record Finishes (a b : Page) (x : Answer Core) : Type 0 where
  pub told : WasTold a b x (at a.fixed.level b)
  pub items : LeavesItems (place_in a.fixed) a b
  pub fitting : IsFitting a.aside (state a) → IsFitting b.aside (at a.fixed.level b)

-- It met the fault of the definition: the listener was told the events before it, and then ends of nodes, no more than
-- stood open.
pub record StopsAt (a b : Page) (x : Answer Core) (e : DemangleError) : Type 0 where
  pub fault : Fault
  pub is : error_at fault ≡ e
  pub told : WasStopped a.seen b.seen x fault

-- It was cut short: the listener was told a front of the events, and then ends of nodes, no more than stood open.
pub record Breaks (a b : Page) (x : Answer Core) : Type 0 where
  pub front : List Event
  pub others : List Event
  pub ended : ℕ
  pub stand_open : ℕ
  pub is : events x ≡ front ++ others
  pub told : Told a.seen b.seen (front ++ ends ended)
  pub are_open : open_behind front (Some 0) ≡ Some stand_open
  pub no_more : ended ≤ stand_open

-- The listener failed, as its count of failures says.
pub record Fails (a b : Page) (x : Answer Core) : Type 0 where
  pub breaks : Breaks a b x
  pub rose : Rose a.seen.faults b.seen.faults

-- There was no memory. Where no two items had one level, and none a level above the context's, and there are no more
-- levels than the stacks have room for, it was the listener who had none, as its count of refusals says.
pub record Lacks (a b : Page) (x : Answer Core) : Type 0 where
  pub breaks : Breaks a b x
  pub rose : IsFitting a.aside (state a) → a.fixed.limit ≤ most_items → Rose a.seen.refusals b.seen.refusals

abbrev pub Ends : (a b : Page) → Answer Core → Reply → Type 0
Ends a b x (Ok v) = Finishes a b x
Ends a b x (Err error.Sink) = Fails a b x
Ends a b x (Err error.OutOfMemory) = Lacks a b x
Ends a b x (Err e) = StopsAt a b x e

-- So it ended; neither of the listener's counts rose for another cause; and the level, the limit, the table, the input
-- and the listener are the same.
pub record Answers (a b : Page) (x : Answer Core) (r : Reply) : Type 0 where
  pub ends : Ends a b x r
  pub faults : (r ≡ Err error.Sink → ⊥) → b.seen.faults ≡ a.seen.faults
  pub refusals : (r ≡ Err error.OutOfMemory → ⊥) → b.seen.refusals ≡ a.seen.refusals
  pub fixed : b.fixed ≡ a.fixed

-- ---- declarators
-- what may end the printing of a plain type
abbrev pub may_end : DemangleError → Bool
may_end (error.Reference e) = false
may_end error.NotUtf8 = false
may_end _ = true

pub record HasText (old new : Seen) (text : List ℕ) : Type 0 where
  pub all : List Event
  pub told : Told old new all
  pub is : text_of all ≡ text

-- The listener was told this text, unless a limit was met or the listener was in need.
abbrev pub Declares : (old new : Seen) → List ℕ → Reply → Type 0
Declares old new text (Ok v) = HasText old new text
Declares old new text (Err e) = may_end e ≡ true

-- ---- the calls
-- The line of a tree. A plain type, with no item waiting and no explicit object to come, is printed as its declarator.
pub record Demangled (a b : Page) (x : Core) (sc : Scope Core) (r : Reply) : Type 0 where
  pub answers : Answers a b (printed_line a.fixed x sc (state a)) r
  pub declares : (p : Plain) → Is (world_of a.fixed.refers) x p → is_type p ≡ true → a.inner ≡ [] →
      a.flags.object ≡ false → Declares a.seen b.seen (declared p) r

-- What of an item stands behind.
pub record DemangledInner (a b : Page) (x : Core) (sc : Scope Core) (r : Reply) : Type 0 where
  pub answers : Answers a b (printed_inside a.fixed x sc (state a)) r
