-- Bytes before an `E`.
use Rattle.std.specs.Prelude.{ℕ, Bool, not, ◌==◌}

abbrev pub is_no_e : ℕ → Bool
is_no_e b = not (b == 69)
