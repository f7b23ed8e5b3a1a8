-- Counts of faults, and what an answer says of them.
use Rattle.std.specs.Prelude.{◌≡◌, ℕ, ◌+◌, ◌-◌, ◌^◌, ◌<◌, ◌≤◌, min, Result, Ok, Err}
use Rattle.cppfilt_ends.specs.declared.ends.Failed.{Failed}
use Rattle.demangle_context.specs.declared.error.SinkFault.{SinkFault}
use Rattle.demangle_context.specs.declared.error.SinkFault.TheVariants as fault

-- a count has risen, or stands at its last value
abbrev pub Rose : ℕ → ℕ → Type 0
Rose before now = min (before + 1) (2 ^ 64 - 1) ≤ now

-- there was no fault: the count is what it was, and below its last value
abbrev pub NoFault : ℕ → ℕ → Type 0
NoFault before now = (now ≡ before) × (before < 2 ^ 64 - 1)

-- a read raises its source's count of faults only where it failed
abbrev pub SourceCause : {T : Type 0} → ℕ → ℕ → Result T Failed → Type 0
SourceCause before now (Ok x) = now ≡ before
SourceCause before now (Err e) = (before ≤ now) × Rose before now

-- a write raises its sink's count of faults only where it failed
abbrev pub SinkCause : {T : Type 0} → ℕ → ℕ → Result T SinkFault → Type 0
SinkCause before now (Ok x) = now ≡ before
SinkCause before now (Err fault.Failed) = (before ≤ now) × Rose before now
SinkCause before now (Err fault.OutOfMemory) = now ≡ before

-- the bytes that a source counts as taken rise by those that it gave, up to their last value
abbrev pub TakenCount : ℕ → ℕ → Result ℕ Failed → Type 0
TakenCount before now (Ok n) = now ≡ min (before + n) (2 ^ 64 - 1)
TakenCount before now (Err e) = now ≡ before

-- how many bytes a read gave: none where it failed
abbrev pub given_by : Result ℕ Failed → ℕ
given_by (Ok n) = n
given_by (Err e) = 0
