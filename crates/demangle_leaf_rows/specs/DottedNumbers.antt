-- The numbers of a clone's suffix, each with a dot before it.
use Rattle.std.specs.Prelude.{◌≡◌, ℕ, List, [], ◌∷◌, ◌++◌, map, ℤ, pos, codes, Result, Ok, Err}
use Rattle.std.specs.declared.alloc.Global.{Global}
use Rattle.std.specs.declared.vec.Vec.{Vec}
use Rattle.demangle_text.specs.Kind.{Kind}
use Rattle.demangle_text.specs.Number.{natural_from}
use Rattle.demangle_text.specs.Spot.{Spot, spot}
use Rattle.demangle_text.specs.Word.{word_at}
use Rattle.demangle_text.specs.declared.index_str.IndexStr.{IndexStr}
use Rattle.demangle_text.specs.declared.error.Error.{Error}
use Rattle.demangle_text.specs.declared.error.Error.TheVariants.{OutOfMemory}
use Rattle.demangle_core.specs.Core.{Core, number, end}
use Rattle.demangle_core.specs.Table.{Table}
use Rattle.demangle_grammar.specs.Code.{Here, here, at, Out, Yes, all_of, read_spot, read_leaf}

abbrev pub number_behind : Result Spot Kind → Result (ℕ × Spot) Kind
number_behind (Ok p) = natural_from 10 p
number_behind (Err k) = Err k

-- a dot and a number
unfoldable pub dotted_number : Spot → Result (ℕ × Spot) Kind
dotted_number p = number_behind (word_at (codes ".") p)

-- the same as a turn of the row
abbrev pub number_turn : Here → List Core → Out
number_turn s acc =
    read_spot (word_at (codes ".") s.spot)
    (λ p. read_leaf (natural_from 10 p) (λ v q. Yes (at s q) (acc ++ number (pos v) end ∷ [])))

abbrev pub number_tree : ℤ → Core
number_tree v = number v end

-- as many of them as there are, whatever the table is; want of memory is the one refusal
abbrev pub AnswersNumbers : IndexStr → Result (Vec ℤ Global × IndexStr) Error → Type 0
AnswersNumbers input (Ok x) = (table : Table)
    → all_of number_turn (here (spot input) table) [] ≡ Yes (here (spot x.1) table) (map number_tree x.0.items)
AnswersNumbers input (Err e) = e ≡ OutOfMemory
