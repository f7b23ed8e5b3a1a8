-- What is owed for the bytes behind a line that isn't complete yet.
use Rattle.std.specs.Prelude.{ℕ, List, ◌++◌}
use Rattle.cppfilt_lines.specs.Due.{due}
use Rattle.cppfilt_lines.specs.declared.options.FilterOptions.{FilterOptions}

-- what is owed once these bytes have come: what is gathered, and what is due for the front of a line that is held and
-- for the bytes behind it
abbrev pub ahead : FilterOptions → (gathered held : List ℕ) → List ℕ → List ℕ
ahead o gathered held bytes = gathered ++ due o (held ++ bytes)

-- no more bytes are taken before those due for the others are written
abbrev pub block_limit : ℕ
block_limit = 65536
