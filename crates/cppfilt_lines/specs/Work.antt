-- What the program is asked to do, and what is due for it.
use Rattle.std.specs.Prelude.{ℕ, Bool, true, false, List, [], map, Option, Some}
use Rattle.cppfilt_lines.specs.Due.{due, due_names}
use Rattle.cppfilt_lines.specs.Lines.{body}
use Rattle.cppfilt_lines.specs.Lines as input
use Rattle.cppfilt_lines.specs.Sample.{summary}
use Rattle.cppfilt_lines.specs.declared.options.FilterOptions.{FilterOptions}

-- filter the lines of the input, show names, or demangle a sample of names
pub data Work : Type 0 where
  lines : Work
  names : List (List ℕ) → Work
  sample : ℕ → Work

-- the input is read for its lines alone
abbrev pub reads : Work → Bool
reads lines = true
reads (names given) = false
reads (sample n) = false

-- of the bytes that a source tells, those that count
abbrev pub input_for : Work → Option (List ℕ) → Option (List ℕ)
input_for lines told = told
input_for (names given) told = Some []
input_for (sample n) told = Some []

-- what is due for an input
abbrev pub due_for : FilterOptions → Work → List ℕ → List ℕ
due_for o lines bytes = due o bytes
due_for o (names given) bytes = due_names o given
due_for o (sample n) bytes = summary o n

-- the bytes that may be asked for their texts
abbrev pub candidates : Work → List ℕ → List (List ℕ)
candidates lines bytes = map body (input.lines bytes)
candidates (names given) bytes = given
candidates (sample n) bytes = []
