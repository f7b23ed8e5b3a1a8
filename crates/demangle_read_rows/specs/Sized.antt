-- A number, and just so many bytes: the rule of a source name, in the parts that functions read.
use Rattle.std.specs.Prelude.{ℕ, Bool, [], ◌∷◌, length, nat_eq, nat_lt, if◌then◌else◌, Result, Ok, Err}
use Rattle.demangle_text.specs.Kind.{Kind, End, Text, Unread}
use Rattle.demangle_text.specs.Number.{natural_from}
use Rattle.demangle_text.specs.Spot.{Spot, skip, front}
use Rattle.demangle_core.specs.Core.{Tag, node, end}
use Rattle.demangle_grammar.specs.Rule.{Row}
use Rattle.demangle_grammar.specs.Code.{Here, Out, Yes, at, cread, from_row, read_leaf, whole}

abbrev pub sized_from : Result (ℕ × Spot) Kind → Result (ℕ × Spot) Kind
sized_from (Ok x) =
    if nat_eq x.0 0 then Err (Unread Text) else (if nat_lt (length x.1.left) x.0 then Err (Unread End) else Ok x)
sized_from (Err k) = Err k

-- a length, and the place behind it: it is not 0, and so many bytes are left there
unfoldable pub sized_at : Spot → Result (ℕ × Spot) Kind
sized_at p = sized_from (natural_from 10 p)

-- a source name, where so many levels are left for its identifier
unfoldable pub source_at : ℕ → Bool → Here → Out
source_at f c s =
    read_leaf (sized_at s.spot) (λ n p.
    whole (skip n p) (from_row (cread f Row.identifier c (at s (front n p)) []) (λ m t. Yes m (t ∷ [])))
    (λ m b. Yes m (node Tag.SourceName b end ∷ [])))
