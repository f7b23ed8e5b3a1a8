-- What a sink was given of bytes that are due.
use Rattle.std.specs.Prelude.{◌≡◌, ℕ, List, ◌++◌, Option, Result, Ok, Err}
use Rattle.std.specs.Io.KnownBytes.{Appends}
use Rattle.demangle_context.specs.declared.error.SinkFault.{SinkFault}
use Rattle.cppfilt_ends.specs.Causes.{SinkCause}

-- The sink was given the front of `before`, and `after` is still due.
pub record Moves (old new : Option (List ℕ)) (before after : List ℕ) : Type 0 where
  pub given : List ℕ
  pub appends : Appends old new given
  pub parts : before ≡ given ++ after

-- The sink was given a front of the bytes that are due, and no more.
pub record Begins (old new : Option (List ℕ)) (whole : List ℕ) : Type 0 where
  pub after : List ℕ
  pub moves : Moves old new whole after

-- What a call gave to its sink of the bytes that are due: on Ok a front of them, with `after` still due, else some
-- front of them; and the sink's count of faults rose only where the sink failed.
abbrev pub Gives : {T : Type 0} → (old new : Option (List ℕ)) → (faults0 faults1 : ℕ) → Result T SinkFault
    → (before after : List ℕ) → Type 0
Gives old new f0 f1 (Ok x) before after = (f1 ≡ f0) × Moves old new before after
Gives {T = T} old new f0 f1 (Err e) before after = SinkCause {T = T} f0 f1 (Err e) × Begins old new before
