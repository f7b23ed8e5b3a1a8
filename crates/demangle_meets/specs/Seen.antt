-- What contracts see of a listener, that it was told events, and which character was written last.
use Rattle.std.specs.Prelude.{◌≡◌, ℕ, ◌<◌, List, [], ◌∷◌, ◌++◌, map, length, Option, Some, None}
use Rattle.std.specs.Char.{encode_utf8}
use Rattle.demangle_printing.specs.State.{Kind, Event, byte, opened, closed}
use Rattle.demangle_printing.specs.Outcome.{text_of}

-- A call of a listener: a piece of text, a node begins, the last node that began ends.
pub data Call : Type 0 where
  piece : List ℕ → Call
  begins : Kind → Call
  ends : Call

-- The text as one and the calls, each where the listener tells it; how often it failed, and how often it had no memory.
pub record Seen : Type 0 where
  pub text : Option (List ℕ)
  pub calls : Option (List Call)
  pub faults : ℕ
  pub refusals : ℕ

-- A list that is told afterwards was told before, and has these more.
abbrev pub Grows : {A : Type 0} → (old new : Option (List A)) → List A → Type 0
Grows old None more = Unit {0}
Grows None (Some ys) more = ⊥
Grows (Some xs) (Some ys) more = ys ≡ xs ++ more

-- ---- calls and events
abbrev pub events_of : List Call → List Event
events_of [] = []
events_of (piece bs ∷ cs) = map byte bs ++ events_of cs
events_of (begins k ∷ cs) = opened k ∷ events_of cs
events_of (ends ∷ cs) = closed ∷ events_of cs

-- no piece is empty
abbrev pub HaveText : List Call → Type 0
HaveText [] = Unit {0}
HaveText (piece bs ∷ cs) = (0 < length bs) × HaveText cs
HaveText (begins k ∷ cs) = HaveText cs
HaveText (ends ∷ cs) = HaveText cs

-- It was told these events, in calls of which no piece is empty.
pub record Told (old new : Seen) (m : List Event) : Type 0 where
  pub calls : List Call
  pub are : events_of calls ≡ m
  pub have_text : HaveText calls
  pub text : Grows old.text new.text (text_of m)
  pub heard : Grows old.calls new.calls calls

-- ---- the last character
-- The text ends in this character.
pub record EndsIn (s : List ℕ) (c : ℕ) : Type 0 where
  pub front : List ℕ
  pub is : s ≡ front ++ encode_utf8 c

-- The last character that was written is now that of the text, where it isn't empty.
abbrev pub LastChar : List ℕ → (old new : Option ℕ) → Type 0
LastChar [] old new = new ≡ old
LastChar (b ∷ bs) old new = (c : ℕ) × (new ≡ Some c) × EndsIn (b ∷ bs) c
