-- A word of the grammar at the front of the bytes.
use Rattle.std.specs.Prelude.{ℕ, Bool, true, false, ◌&&◌, ◌==◌, nat_lt, List, [], ◌∷◌, length, if◌then◌else◌, Result}
use Rattle.std.specs.Prelude.{Ok, Err}
use Rattle.demangle_text.specs.Kind.{Cause, End, Text, Kind, Unread}
use Rattle.demangle_text.specs.Spot.{Spot, skip}

-- whether the bytes begin with the word
abbrev pub starts : List ℕ → List ℕ → Bool
starts [] bs = true
starts (w ∷ ws) [] = false
starts (w ∷ ws) (b ∷ bs) = (w == b) && starts ws bs

-- why a word isn't at the front
abbrev pub missing_word : List ℕ → List ℕ → Cause
missing_word w bs = if nat_lt (length bs) (length w) then End else Text

-- the place behind a word
unfoldable pub word_at : List ℕ → Spot → Result Spot Kind
word_at w p = if starts w p.left then Ok (skip (length w) p) else Err (Unread (missing_word w p.left))
