-- Lists, behind what was read of them: that is given by the indexes of the trees.
use Rattle.std.specs.Prelude.{ℕ, zero, suc, Bool, List, [], ◌∷◌, ◌++◌, map, pos, codes, Result, Ok, Err}
use Rattle.demangle_text.specs.Kind.{Kind, Deep}
use Rattle.demangle_text.specs.Number.{natural_from}
use Rattle.demangle_text.specs.Spot.{Spot}
use Rattle.demangle_text.specs.Word.{word_at}
use Rattle.demangle_core.specs.Core.{Core, Tag, node, number, end}
use Rattle.demangle_grammar.specs.Rule.{Row}
use Rattle.demangle_grammar.specs.Code.{joined, Here, Reply, Refused, Out, Yes, at, all_of}
use Rattle.demangle_grammar.specs.Code.{and_then, close, cread, from_row, read_leaf, read_spot, rows_at, all_at}

-- as many of the row as can be read
unfoldable pub list_at : ℕ → Row → Bool → (ℕ → Core) → List ℕ → Here → Out
list_at f r c F is s = rows_at (cread f) c r s (map F is)

-- ---- the numbers of a clone's suffix, each with a dot before it
abbrev pub number_behind : Result Spot Kind → Result (ℕ × Spot) Kind
number_behind (Ok p) = natural_from 10 p
number_behind (Err k) = Err k

unfoldable pub dotted_number : Spot → Result (ℕ × Spot) Kind
dotted_number p = number_behind (word_at (codes ".") p)

-- the same as a turn of the row
abbrev pub number_turn : Here → List Core → Out
number_turn s acc =
    read_spot (word_at (codes ".") s.spot)
    (λ p. read_leaf (natural_from 10 p) (λ v q. Yes (at s q) (acc ++ number (pos v) end ∷ [])))

-- as many of them as can be read
unfoldable pub numbers_at : List Core → Here → Out
numbers_at acc s = and_then (all_of number_turn s acc) (λ m b. Yes m (node Tag.Several (joined b) end ∷ []))

-- the suffix: a dot, its word, and the numbers
unfoldable pub suffix_at : ℕ → Bool → Here → Reply
suffix_at zero c s = Refused Deep
suffix_at (suc f) c s =
    close (read_spot (word_at (codes ".") s.spot) (λ p.
    from_row (cread f Row.clone_type_identifier c (at s p) []) (λ m t.
    and_then (numbers_at [] m) (λ n b. Yes n (node Tag.CloneSuffix (joined (t ∷ b)) end ∷ [])))))

-- the row of ABI tags: the list of them
unfoldable pub tags_at : ℕ → Bool → Here → Reply
tags_at zero c s = Refused Deep
tags_at (suc f) c s =
    close (and_then (all_at (cread f) c Row.abi_tag s) (λ m b. Yes m (node Tag.AbiTags (joined b) end ∷ [])))
