-- The notation of the rows. An item is put before what is read after it: `a · b` is a and then b, `a // b` is a or else
-- b. Each item goes on from the parts that were read so far in its row: it leaves them (a word, a condition, `commit`),
-- adds one (`eat`, `r`, `sized`, `opt`, `vec`), or puts one in the place of all (`made`, `plus`). In a turn of the
-- prefix loop the parts so far are the prefix that the turns before have read.
use Rattle.std.specs.Prelude.{ℕ, false, codes}
use Prim.Native.String.{String}
use Rattle.demangle_core.specs.Core.{Tag}
use Rattle.demangle_grammar.specs.Rule.{Class, Row, Eat, Cond, Make, Mark, Given, Leaf, Rule}

-- what stands in a row: what is read after it makes it a rule
abbrev pub Item : Type 0
Item = Rule → Rule

infixr 30 ◌·◌
abbrev pub ◌·◌ : Item → Item → Item
◌·◌ a b k = a (b k)

infixr 20 ◌//◌
abbrev pub ◌//◌ : Item → Item → Item
◌//◌ a b k = Rule.alt (a Rule.done) (b Rule.done) k

-- ---- words, bytes, numbers
-- just these bytes
abbrev pub w : String → Item
w s k = Rule.leaf (Leaf.word (codes s)) k

-- what is read with no other row
abbrev pub eat : Eat → Item
eat x k = Rule.leaf (Leaf.eat x) k

-- the class of these bytes
abbrev pub these : String → Class
these s = Class.these (codes s)

-- a number in base 10, without a sign
abbrev pub num10 : Item
num10 k = eat (Eat.numeral 10 false) k

-- no bytes: a fixed field
abbrev pub give : Given → Item
give c k = eat (Eat.give c) k

-- ---- conditions
-- a condition, which reads nothing
abbrev pub need : Cond → Item
need c k = Rule.leaf (Leaf.check c) k

-- the next byte is one of these
abbrev pub next : String → Item
next s k = need (Cond.next (these s)) k

-- the next byte is none of these
abbrev pub not_next : String → Item
not_next s k = need (Cond.not_next (these s)) k

-- so many bytes are left at least
abbrev pub more : ℕ → Item
more n k = need (Cond.more n) k

-- a failure
abbrev pub fail : Item
fail k = need Cond.never k

-- no bytes and no field
abbrev pub nothing : Item
nothing k = k

-- ---- rows, repetitions, groups
-- the mark after which no other alternative is tried
abbrev pub commit : Item
commit k = Rule.commit k

-- a row
abbrev pub r : Row → Item
r x k = Rule.call false x k

-- a type
abbrev pub t : Item
t k = r Row.type_handle k

-- an expression
abbrev pub e : Item
e k = r Row.expression k

-- the item as often as it can be read
abbrev pub many : Item → Item
many x k = Rule.star (x Rule.done) k

-- a number n, and then the item over just n bytes
abbrev pub sized : Item → Item
sized x k = Rule.block (x Rule.done) k

-- the item read apart, and made one part
abbrev pub apart : Make → Item → Item
apart m x k = Rule.part m (x Rule.done) k

-- ---- fields
-- what the parts so far become
abbrev pub make : Make → Item
make m k = Rule.leaf (Leaf.make m) k

-- the parts so far become this node
abbrev pub made : Tag → Item
made t k = make (Make.one t) k

-- an optional field with the item in it
abbrev pub present : Item → Item
present x k = apart (Make.one Tag.Present) x k

-- an optional field with nothing in it
abbrev pub absent : Item
absent k = give Given.missing k

-- an optional field: the item, or else nothing
abbrev pub opt : Item → Item
opt x k = (present x // absent) k

-- a flag: whether these bytes are there
abbrev pub flagged : String → Item
flagged s k = (w s · give Given.set // give Given.unset) k

-- a list of the item, which may be empty
abbrev pub vec : Item → Item
vec x k = apart (Make.one Tag.Several) (many x) k

-- a list of the item, which has one at least
abbrev pub vec1 : Item → Item
vec1 x k = apart (Make.one Tag.Several) (x · many x) k

-- 0 without a number, else the number and 1
abbrev pub index : Item
index k = apart Make.index (num10 // nothing) k

-- ---- components
-- the parts so far become a component, with the reference to it in their place
abbrev pub plus : Mark → Item
plus m k = Rule.leaf (Leaf.mark m) k

-- the node just read is a type that becomes a numbered component, with the reference to it in its place
abbrev pub type_component : Tag → Item
type_component x k = (made x · made Tag.SubstitutableTypeNode · plus Mark.numbered') k

-- a prefix: numbered, but for the last of a nested name
abbrev pub prefix_component : Tag → Item
prefix_component x k = (made x · made Tag.SubstitutablePrefix · plus Mark.by_end) k

-- the name of a template outside of a nested name: numbered
abbrev pub template_component : Item
template_component k =
    (made Tag.UnscopedTemplateName · made Tag.SubstitutableUnscopedTemplateName · plus Mark.numbered') k

-- a type that is given by a template parameter or a `decltype` alone: numbered
abbrev pub unresolved_component : Tag → Item
unresolved_component x k = (made x · made Tag.SubstitutableUnresolvedType · plus Mark.numbered') k
