-- The row of whole mangled names in parts.
use Rattle.std.specs.Prelude.{ℕ, zero, suc, pos, Bool, [], ◌∷◌, codes, Result, Ok, Err}
use Rattle.demangle_core.specs.Core.{Core, Tag, node, number, end, ◌⊕◌}
use Rattle.demangle_text.specs.Kind.{Kind}
use Rattle.demangle_text.specs.Kind as kind
use Rattle.demangle_text.specs.Spot.{Spot}
use Rattle.demangle_text.specs.Word.{word_at}
use Rattle.demangle_text.specs.Number.{natural_from}
use Rattle.demangle_grammar.specs.Rule.{Row}
use Rattle.demangle_grammar.specs.Items.{◌·◌, r, t, vec, made}
use Rattle.demangle_grammar.specs.Code.{at, Go, Here, Reply, Refused, Out, Yes, close, from_row, read_spot}
use Rattle.demangle_grammar.specs.Code.{read_leaf, cread}
use Rattle.demangle_grammar.specs.Parts.{alone, else_spot}
use Rattle.demangle_forms.specs.WordForms.{either, number_or_none}

-- the words before an encoding, and before that of a block's function
unfoldable pub encoding_word_at : Spot → Result Spot Kind
encoding_word_at p = either (word_at (codes "_Z") p) (word_at (codes "__Z") p)

unfoldable pub block_word_at : Spot → Result Spot Kind
block_word_at p = either (word_at (codes "___Z") p) (word_at (codes "____Z") p)

-- behind the word: the encoding and the suffixes of clones
unfoldable pub encoding_and_clones_at : Go → Bool → Here → Reply
encoding_and_clones_at go c s =
    close (alone (r Row.encoding · vec (r Row.clone_suffix) · made Tag.MangledNameEncoding) go c s)

-- ---- the number of a block: none, one alone, or one behind _ or . where none may be missing
abbrev pub number_present : Result (ℕ × Spot) Kind → Result (Core × Spot) Kind
number_present (Ok x) = Ok (node Tag.Present (number (pos x.0) end) end, x.1)
number_present (Err k) = Err k

abbrev pub number_behind : Result Spot Kind → Spot → Result (Core × Spot) Kind
number_behind (Ok q) p = number_present (natural_from 10 q)
number_behind (Err k) p = Ok (number_or_none (natural_from 10 p) p)

unfoldable pub block_number_at : Spot → Result (Core × Spot) Kind
block_number_at p = number_behind (either (word_at (codes "_") p) (word_at (codes ".") p)) p

abbrev pub block_behind : Core → Here → Out
block_behind x m =
    read_spot (word_at (codes "_block_invoke") m.spot) (λ p. read_leaf (block_number_at p) (λ n q.
    Yes (at m q) (node Tag.MangledNameBlockInvoke (x ⊕ n) end ∷ [])))

unfoldable pub block_invoke_at : Go → Bool → Here → Reply
block_invoke_at go c s = close (from_row (go Row.encoding c s []) (λ m x. block_behind x m))

-- ---- the alternatives
abbrev pub mangled_name_at : Go → Bool → Here → Reply
mangled_name_at go c s =
    else_spot (encoding_word_at s.spot) (λ p. encoding_and_clones_at go c (at s p)) (λ u.
    else_spot (block_word_at s.spot) (λ p. block_invoke_at go c (at s p)) (λ u.
    else_spot (word_at (codes "_GLOBAL_") s.spot)
    (λ p. close (alone (r Row.global_ctor_dtor · made Tag.MangledNameGlobalCtorDtor) go c (at s p))) (λ u.
    close (alone (t · made Tag.MangledNameTopLevelType) go c s))))

unfoldable pub mangled_name_row : ℕ → Bool → Here → Reply
mangled_name_row zero c s = Refused kind.Deep
mangled_name_row (suc f) c s = mangled_name_at (cread f) c s
