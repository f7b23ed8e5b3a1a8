-- What a definition finds at the front of the bytes.
use Rattle.std.specs.Prelude.{ℕ, ◌+◌, Result, Ok, Err}
use Rattle.demangle_text.specs.Kind.{Cause, Kind, Unread}
use Rattle.demangle_text.specs.Spot.{Spot, skip}

-- so many bytes, which say a value; or why there is none
pub data Found (X : Type 0) : Type 0 where
  took : ℕ → X → Found X
  none : Cause → Found X

abbrev pub mapped : {X Y : Type 0} → (X → Y) → Found X → Found Y
mapped f (took n x) = took n (f x)
mapped f (none c) = none c

-- the same, behind so many bytes more
abbrev pub behind : {X : Type 0} → ℕ → Found X → Found X
behind m (took n x) = took (m + n) x
behind m (none c) = none c

-- the value and how many bytes it took
abbrev pub and_length : {X : Type 0} → Found X → Result (X × ℕ) Kind
and_length (took n x) = Ok (x, n)
and_length (none c) = Err (Unread c)

-- the value and the place behind so many bytes
abbrev pub placed : {X : Type 0} → Result (X × ℕ) Kind → Spot → Result (X × Spot) Kind
placed (Ok x) p = Ok (x.0, skip x.1 p)
placed (Err k) p = Err k

-- the value and the place behind it
abbrev pub and_rest : {X : Type 0} → Found X → Spot → Result (X × Spot) Kind
and_rest x p = placed (and_length x) p
