-- A sample of names, and what is due for it.
use Rattle.std.specs.Prelude.{ℕ, zero, suc, ◌+◌, ◌%◌, ◌==◌, List, [], ◌∷◌, ◌++◌, length, sum_by, codes, if◌then◌else◌}
use Rattle.std.specs.Fmt.{decimal}
use Rattle.demangle_printing.specs.Outcome.{Outcome, Shown, NotRead, NotPrinted, outcome}
use Rattle.cppfilt_lines.specs.declared.options.FilterOptions.{FilterOptions}

-- ---- the names
abbrev pub identifier : ℕ → List ℕ
identifier i = codes "n" ++ decimal (i % 1000)

abbrev pub source_name : ℕ → List ℕ
source_name i = decimal (length (identifier i)) ++ identifier i

-- so many times the same bytes
abbrev pub copies : ℕ → List ℕ → List ℕ
copies zero bytes = []
copies (suc n) bytes = bytes ++ copies n bytes

-- the types in turn: `int`, `char const*`, `double const&`, `int (*)()`
abbrev pub type_at : ℕ → List ℕ
type_at k =
    if k == 0 then codes "i" else (if k == 1 then codes "PKc" else (if k == 2 then codes "RKd" else codes "PFivE"))

-- so many types, from this one on
abbrev pub types_from : ℕ → ℕ → List ℕ
types_from k zero = []
types_from k (suc n) = type_at (k % 4) ++ types_from (k + 1) n

-- a nested name of one to seven equal parts, and one to four types
unfoldable pub sample_name : ℕ → List ℕ
sample_name i = codes "_ZN" ++ copies (1 + i % 7) (source_name i) ++ codes "E" ++ types_from i (1 + i % 4)

-- ---- what is due
abbrev pub text_in : Outcome → List (List ℕ)
text_in (Shown text) = text ∷ []
text_in (NotRead kind) = []
text_in (NotPrinted fault) = []

-- the texts of the first n names that have one
abbrev pub sample_texts : FilterOptions → ℕ → List (List ℕ)
sample_texts o zero = []
sample_texts o (suc n) = sample_texts o n ++ text_in (outcome o.parse o.print (sample_name n))

-- how many names there are, how many have a text, and how many bytes these texts have together
unfoldable pub summary : FilterOptions → ℕ → List ℕ
summary o n =
    codes "names " ++ decimal n ++ codes " read " ++ decimal (length (sample_texts o n)) ++ codes " bytes "
    ++ decimal (sum_by length (sample_texts o n)) ++ 10 ∷ []
