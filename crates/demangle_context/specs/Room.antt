-- For how many items a stack has room from the beginning.
use Rattle.std.specs.Prelude.{ℕ, min}

abbrev pub most_items : ℕ
most_items = 65536

-- as many as there are levels, but no more than the most
abbrev pub reserve : ℕ → ℕ
reserve limit = min limit most_items
