-- That the order of a table's words is of no account.
use Rattle.std.specs.Prelude.{◌≡◌, ℕ, true, List, ◌∷◌, ◌++◌, length}
use Rattle.demangle_text.specs.Found.{took}
use Rattle.demangle_text.specs.Word.{starts}
use Rattle.demangle_vocab.specs.WordTable.{table_at}

-- the word that stands at the front is the one that is found, with the number of words before it in the table
abbrev pub ReadsEachWord : List (List ℕ) → Type 0
ReadsEachWord ws = (before behind : List (List ℕ)) (w bs : List ℕ) → ws ≡ before ++ w ∷ behind → starts w bs ≡ true
    → table_at ws bs ≡ took (length w) (length before)
