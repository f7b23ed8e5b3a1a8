-- What the calls of a context change that write, or that tell the listener of nodes; and when there is room for items.
use Rattle.std.specs.Prelude.{◌≡◌, ℕ, ◌≤◌, ◌↔◌, true, false, codes, List, [], length}
use Rattle.std.specs.Prelude.{Result, Ok, Err, OnOk, IfErr}
use Rattle.demangle_printing.specs.State.{has_room, less_room, wrote, is_byte}
use Rattle.demangle_printing.specs.Laws.{IsReady}
use Rattle.demangle_meets.specs.Seen.{Call, LastChar}
use Rattle.demangle_context.specs.Hears.{Hears, HearsText, Fails, LacksMemory}
use Rattle.demangle_context.specs.Room.{most_items}
use Rattle.demangle_context.specs.View.{View, state_of}
use Rattle.demangle_context.specs.declared.error.DemangleError.{DemangleError}
use Rattle.demangle_context.specs.declared.error.DemangleError.TheVariants as error

-- ---- texts
-- The text was written: the listener heard it in one piece, and the room is shorter.
pub record Writes {S : Type 0} (a b : View S) (s : List ℕ) : Type 0 where
  pub state : state_of b ≡ wrote s (state_of a)
  pub last_char : LastChar s a.last_char b.last_char
  pub heard : HearsText a.seen b.seen s
  pub others : b ≡ record a { last_char = b.last_char; room = less_room a.room (length s); seen = b.seen }

-- Nothing was written: the text is too long, the listener failed, or it had no memory.
abbrev pub WritesNothing : {S : Type 0} → (a b : View S) → DemangleError → Type 0
WritesNothing a b error.TooLong = b ≡ a
WritesNothing a b error.Sink = Fails a.seen b.seen × (b ≡ record a { seen = b.seen })
WritesNothing a b error.OutOfMemory = LacksMemory a.seen b.seen × (b ≡ record a { seen = b.seen })
WritesNothing a b error.NotUtf8 = ⊥
WritesNothing a b error.TooMuchRecursion = ⊥
WritesNothing a b (error.Reference e) = ⊥

-- A text is written, or not, and why. Of an empty one the listener hears nothing. It is too long exactly where the room
-- is shorter; then the listener isn't asked.
pub record Writing {S : Type 0} (a b : View S) (r : Result (Unit {0}) DemangleError) (s : List ℕ) : Type 0 where
  pub empty : s ≡ [] → (r ≡ Ok tt) × (b ≡ a)
  pub written : OnOk r (Writes a b s)
  pub too_long : (r ≡ Err error.TooLong) ↔ (has_room a.room (length s) ≡ false)
  pub refused : IfErr r (WritesNothing a b)

-- A space is written, unless the last byte is one.
pub record Spacing {S : Type 0} (a b : View S) (r : Result (Unit {0}) DemangleError) : Type 0 where
  pub there : is_byte 32 (state_of a).last ≡ true → (r ≡ Ok tt) × (b ≡ a)
  pub written : is_byte 32 (state_of a).last ≡ false → Writing a b r (codes " ")

-- ---- nodes
-- The listener heard a call, and that is all.
pub record Announces {S : Type 0} (a b : View S) (call : Call) : Type 0 where
  pub heard : Hears a.seen b.seen call
  pub others : b ≡ record a { seen = b.seen }

-- ---- items
-- No two items have one level, be they set aside, waiting or kept, and the level is above all of theirs; and a stack
-- has room for as many as there are levels.
pub record IsReadyToHold {S : Type 0} (v : View S) : Type 0 where
  pub levels : v.items.limit ≤ most_items
  pub ready : IsReady v.items.aside (state_of v)
