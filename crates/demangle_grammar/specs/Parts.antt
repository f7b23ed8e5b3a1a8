-- Words for the parts of a row that functions of their own read.
use Rattle.std.specs.Prelude.{ℕ, Bool, true, false, map, List, [], ◌∷◌, Result, Ok, Err}
use Rattle.demangle_core.specs.Core.{Core, Tag, node, end, N}
use Rattle.demangle_core.specs.Table.{added, size}
use Rattle.demangle_text.specs.Kind.{Kind, Unread, Text}
use Rattle.demangle_text.specs.Spot.{Spot}
use Rattle.demangle_text.specs.Word.{word_at}
use Rattle.demangle_grammar.specs.Rule.{Rule}
use Rattle.demangle_grammar.specs.Items.{Item}
use Rattle.demangle_grammar.specs.Tree.{reference}
use Rattle.demangle_grammar.specs.Code.{joined, Go, Here, here, Reply, Found, Refused, Out, Yes, No, crun}

-- one item, with nothing before it and nothing behind it
abbrev pub alone : Item → Go → Bool → Here → Out
alone x go c s = crun go c (x Rule.done) s []

-- the same behind parts that were read
abbrev pub behind : Item → Go → Bool → Here → List Core → Out
behind x go c s acc = crun go c (x Rule.done) s acc

-- the trees of a list, one part each
unfoldable pub listed : {A : Type 0} → (A → Tag) → (A → Core) → List A → List Core
listed tag parts list = map (λ x. node (tag x) (parts x) end) list

-- The last of the alternatives is a reply, in which the mark plays no part.
abbrev pub else_row : Out → (Unit {0} → Reply) → Reply
else_row (Yes s acc) f = Found (joined acc) s
else_row (No true k) f = Refused k
else_row (No false k) f = f tt

-- a new numbered component behind m, and the reference to it
abbrev pub entered : Core → Here → Reply
entered x m = Found (reference N (size N m.table)) (here m.spot (added N x m.table))

-- ---- alternatives that begin with a word each: the word is read first, and tells which of them it is
abbrev pub worded : {X : Type 0} → X → Result Spot Kind → Result (X × Spot) Kind → Result (X × Spot) Kind
worded x (Ok p) o = Ok (x, p)
worded x (Err k) o = o

-- why a word isn't there
abbrev pub missing_kind : Result Spot Kind → Kind
missing_kind (Ok p) = Unread Text
missing_kind (Err k) = k

-- the first of these words that stands at the front, and the place behind it; or why the last of them isn't there
abbrev pub first_word : {X : Type 0} → List (List ℕ × X) → Spot → Result (X × Spot) Kind
first_word [] p = Err (Unread Text)
first_word (x ∷ []) p = worded x.1 (word_at x.0 p) (Err (missing_kind (word_at x.0 p)))
first_word (x ∷ y ∷ xs) p = worded x.1 (word_at x.0 p) (first_word (y ∷ xs) p)

-- ---- what is read behind a word in which the mark stands; or else the alternatives behind it
abbrev pub else_spot : Result Spot Kind → (Spot → Reply) → (Unit {0} → Reply) → Reply
else_spot (Ok p) f g = f p
else_spot (Err k) f g = g tt

-- the same for one of several words
abbrev pub else_word : {X : Type 0} → Result (X × Spot) Kind → (X → Spot → Reply) → (Unit {0} → Reply) → Reply
else_word (Ok x) f g = f x.0 x.1
else_word (Err k) f g = g tt
