-- What the calls of a listener change of what is seen of it.
use Rattle.std.specs.Prelude.{◌≡◌, ℕ, ◌≤◌, List, [], ◌∷◌, Option, Some, None}
use Rattle.demangle_meets.specs.Seen.{Call, piece, begins, ends, Seen, Grows}
use Rattle.demangle_meets.specs.Goes.{Rose}
use Rattle.demangle_context.specs.declared.error.SinkFault.{SinkFault}
use Rattle.demangle_context.specs.declared.error.SinkFault.TheVariants as fault

-- ---- one call
-- A list that is told afterwards was told before, and is the same.
abbrev pub Stays : {A : Type 0} → (old new : Option (List A)) → Type 0
Stays old None = Unit {0}
Stays None (Some ys) = ⊥
Stays (Some xs) (Some ys) = ys ≡ xs

abbrev pub TextGrows : (old new : Option (List ℕ)) → Call → Type 0
TextGrows old new (piece bs) = Grows old new bs
TextGrows old new (begins k) = Stays old new
TextGrows old new ends = Stays old new

-- It heard a call, and no count rose.
pub record Hears (old new : Seen) (call : Call) : Type 0 where
  pub text : TextGrows old.text new.text call
  pub calls : Grows old.calls new.calls (call ∷ [])
  pub faults : new.faults ≡ old.faults
  pub refusals : new.refusals ≡ old.refusals

-- A count rose, or stands at its last value.
pub record Rises (old new : ℕ) : Type 0 where
  pub no_less : old ≤ new
  pub rose : Rose old new

-- It failed, and heard nothing.
pub record Fails (old new : Seen) : Type 0 where
  pub text : Stays old.text new.text
  pub calls : Stays old.calls new.calls
  pub faults : Rises old.faults new.faults
  pub refusals : new.refusals ≡ old.refusals

-- It had no memory, and heard nothing.
pub record LacksMemory (old new : Seen) : Type 0 where
  pub text : Stays old.text new.text
  pub calls : Stays old.calls new.calls
  pub faults : new.faults ≡ old.faults
  pub refusals : Rises old.refusals new.refusals

abbrev pub Refuses : (old new : Seen) → SinkFault → Type 0
Refuses old new fault.Failed = Fails old new
Refuses old new fault.OutOfMemory = LacksMemory old new

-- ---- a text
-- One piece; nothing at all where the text is empty.
abbrev pub HearsText : (old new : Seen) → List ℕ → Type 0
HearsText old new [] = new ≡ old
HearsText old new (b ∷ bs) = Hears old new (piece (b ∷ bs))
