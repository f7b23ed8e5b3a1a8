-- The lines of an input.
use Rattle.std.specs.Prelude.{ℕ, ◌-◌, List, [], ◌∷◌, ◌++◌, length, take, drop, slice_index, ◌==◌, if◌then◌else◌}
use Rattle.std.specs.Prelude.{not, fold}
use Rattle.std.specs.List.{prefix_len}

-- a byte put before the first line
abbrev pub onto_first : ℕ → List (List ℕ) → List (List ℕ)
onto_first b [] = (b ∷ []) ∷ []
onto_first b (l ∷ ls) = (b ∷ l) ∷ ls

-- The lines: the input cut after each line feed (10). A rest that is empty is no line.
unfoldable pub lines : List ℕ → List (List ℕ)
lines [] = []
lines (b ∷ bs) = if b == 10 then (b ∷ []) ∷ lines bs else onto_first b (lines bs)

-- how many bytes stand before the first line feed
abbrev pub before_feed : List ℕ → ℕ
before_feed input = prefix_len (λ b. not (b == 10)) input

-- a line without this byte at its end
abbrev pub without_last : ℕ → List ℕ → List ℕ
without_last b l = if slice_index l (length l - 1) == b then take (length l - 1) l else l

-- a line's bytes without its line feed, and then without one carriage return (13) at their end
abbrev pub body : List ℕ → List ℕ
body l = without_last 13 (without_last 10 l)

-- the bytes set aside at a line's end
abbrev pub ending : List ℕ → List ℕ
ending l = drop (length (body l)) l

-- what has come of a line, after one more byte: nothing behind a line feed
abbrev pub line_after : List ℕ → ℕ → List ℕ
line_after line b = if b == 10 then [] else line ++ b ∷ []

-- the bytes behind the last line feed: of a line that isn't complete
unfoldable pub unfinished : List ℕ → List ℕ
unfinished input = fold line_after [] input

-- the complete lines of an input: its bytes through the last line feed
abbrev pub complete : List ℕ → List ℕ
complete input = take (length input - length (unfinished input)) input
