-- What is counted of a sample.
use Rattle.std.specs.Prelude.{◌≡◌, ℕ, List, [], ◌∷◌, length, sum_by, Option, Some, None}
use Rattle.cppfilt_lines.specs.Sample.{sample_texts}
use Rattle.cppfilt_lines.specs.declared.options.FilterOptions.{FilterOptions}

-- how many texts there are, and how many bytes they have
abbrev pub Counted : FilterOptions → (count read bytes : ℕ) → Type 0
Counted o count read bytes = (read ≡ length (sample_texts o count)) × (bytes ≡ sum_by length (sample_texts o count))

-- the length of the one text, where there is one
abbrev pub IsLength : List (List ℕ) → Option ℕ → Type 0
IsLength texts (Some n) = (text : List ℕ) × (texts ≡ text ∷ []) × (n ≡ length text)
IsLength texts None = texts ≡ []
