-- What holds of what is due for an input, whatever the options are.
use Rattle.std.specs.Prelude.{◌≡◌, ◌⊎◌, ℕ, false, List, [], ◌∷◌, ◌++◌, flat_map}
use Rattle.std.specs.List.{All}
use Rattle.cppfilt_lines.specs.Due.{due, shown_line}
use Rattle.cppfilt_lines.specs.Lines.{lines, body, ending}
use Rattle.cppfilt_lines.specs.Shown.{is_asked, shown}
use Rattle.cppfilt_lines.specs.declared.options.FilterOptions.{FilterOptions}

-- the lines of an input, joined, are the input
abbrev pub LinesJoin : Type 0
LinesJoin = (input : List ℕ) → flat_map (λ line. line) (lines input) ≡ input

-- A line is its bytes and then its ending: nothing, a line feed (10), a carriage return (13), or both.
abbrev pub IsEnding : List ℕ → Type 0
IsEnding e = ((e ≡ []) ⊎ (e ≡ 10 ∷ [])) ⊎ ((e ≡ 13 ∷ []) ⊎ (e ≡ 13 ∷ 10 ∷ []))

abbrev pub HasEnding : List ℕ → Type 0
HasEnding line = (line ≡ body line ++ ending line) × IsEnding (ending line)

-- What is due for it is what its bytes become, and then that ending.
abbrev pub EndingsStay : Type 0
EndingsStay = (o : FilterOptions) (line : List ℕ) → HasEnding line
    × (shown_line o line ≡ shown o (body line) ++ ending line)

-- what is due for a line that isn't asked is the line
abbrev pub UnaskedLineStays : Type 0
UnaskedLineStays = (o : FilterOptions) (line : List ℕ) → is_asked o (body line) ≡ false → shown_line o line ≡ line

-- what is due for an input of which no line is asked is the input
abbrev pub UnaskedStays : Type 0
UnaskedStays = (o : FilterOptions) (input : List ℕ) → All (λ line. is_asked o (body line) ≡ false) (lines input)
    → due o input ≡ input

-- what is due for two inputs, joined behind a line feed of the first, is what is due for each, joined
abbrev pub DueJoins : Type 0
DueJoins = (o : FilterOptions) (first second : List ℕ)
    → due o ((first ++ 10 ∷ []) ++ second) ≡ due o (first ++ 10 ∷ []) ++ due o second
