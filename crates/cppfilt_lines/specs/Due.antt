-- What a line filter owes.
use Rattle.std.specs.Prelude.{ℕ, List, [], ◌∷◌, ◌++◌, flat_map}
use Rattle.cppfilt_lines.specs.Lines.{lines, body, ending}
use Rattle.cppfilt_lines.specs.Shown.{shown}
use Rattle.cppfilt_lines.specs.declared.options.FilterOptions.{FilterOptions}

unfoldable pub shown_line : FilterOptions → List ℕ → List ℕ
shown_line o l = shown o (body l) ++ ending l

-- what is due for an input: each line's bytes as they are shown, with its ending as it stood
unfoldable pub due : FilterOptions → List ℕ → List ℕ
due o input = flat_map (shown_line o) (lines input)

-- what is due for names: each name's bytes as they are shown, and a line feed
abbrev pub due_names : FilterOptions → List (List ℕ) → List ℕ
due_names o names = flat_map (λ name. shown o name ++ 10 ∷ []) names
