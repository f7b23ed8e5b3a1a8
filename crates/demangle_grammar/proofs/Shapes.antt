-- What is known of the parts so far, computed from the rule that reads them: enough to tell that each node that is made of
-- them is sound for the input. No row is named but the one that goes on from parts.
use Rattle.std.specs.Prelude.{◌≡◌, ℕ, Bool, true, false, ◌&&◌, ◌||◌, not, List, [], ◌∷◌, ◌++◌, length, ◌==◌, codes}
use Rattle.std.proofs.Common.{refl}
use Rattle.demangle_core.specs.Core.{Tag}
use Rattle.demangle_grammar.specs.Rule.{Class, Row, Eat, Cond, Make, Leaf, Rule}
use Rattle.demangle_grammar.specs.Rows.{rule}
use Rattle.demangle_grammar.specs.Sound.{is_substitutable}

-- empty: there are no parts. any, some: any parts, or one at least, with no place among them. one: just a node of this type, and
-- whether it has a field; it may be of a component's kind, which no other node is. placed: a place of bytes of this sort is among
-- them, or is all, and these bytes were read behind it. longer: a place of bytes of this sort and then these is among them.
pub data Known : Type 0 where
  empty any some : Known
  one : Tag → (filled : Bool) → Known
  placed : (alone : Bool) → Eat → List ℕ → Known
  longer : Eat → List ℕ → Known

-- no place is a part, nor a node of a component's kind
abbrev pub is_plain : Known → Bool
is_plain (Known.one t filled) = not (is_substitutable t)
is_plain (Known.placed alone x tail) = false
is_plain (Known.longer x tail) = false
is_plain _ = true

-- there is a part
abbrev pub is_full : Known → Bool
is_full Known.some = true
is_full (Known.one t filled) = true
is_full _ = false

-- there is none
abbrev pub is_none : Known → Bool
is_none Known.empty = true
is_none _ = false

-- with more parts, or none
abbrev pub wide : Known → Known
wide Known.empty = Known.any
wide (Known.one t filled) = Known.some
wide q = q

abbrev pub some_if : Bool → Known → Known
some_if true q = Known.some
some_if false q = wide q

-- p says as much as q
abbrev pub tells : Known → Known → Bool
tells p Known.any = is_plain p
tells p Known.some = is_plain p && is_full p
tells p _ = false

-- ---- nodes
abbrev pub same_bytes : List ℕ → List ℕ → Bool
same_bytes [] [] = true
same_bytes (b ∷ bs) (c ∷ cs) = (b == c) && same_bytes bs cs
same_bytes _ _ = false

-- what may end a part of a resource's name
abbrev pub is_tail : List ℕ → Bool
is_tail tail = same_bytes tail [] || (same_bytes tail (codes "$S") || (same_bytes tail (codes "$_") || same_bytes tail (codes "$$")))

-- a node of this type has a place of such bytes and then these
abbrev pub holds_place : Tag → Eat → List ℕ → Bool
holds_place Tag.Identifier Eat.identifier [] = true
holds_place Tag.CloneTypeIdentifier (Eat.run Class.clone) [] = true
holds_place Tag.ResourceName (Eat.run Class.resource) tail = is_tail tail
holds_place Tag.ExprPrimaryLiteral (Eat.upto b) [] = b == 69
holds_place _ _ _ = false

-- of such parts a node of this type may be made
abbrev pub may_hold : Tag → Known → Bool
may_hold t (Known.placed alone x tail) = holds_place t x []
may_hold t (Known.longer x tail) = holds_place t x tail
may_hold t q = is_plain q

abbrev pub is_signature : Tag → Bool
is_signature Tag.BareFunctionType = true
is_signature _ = false

-- a function type has a list with a type in it
abbrev pub has_result : Bool → Known → Bool
has_result true (Known.one t filled) = filled
has_result true _ = false
has_result false q = true

-- ---- leaves: what is known behind one, from what is known before it; behind one that always fails nothing is asked
abbrev pub finds : Eat → Known → Known
finds (Eat.run c) q = Known.placed (is_none q) (Eat.run c) []
finds Eat.identifier q = Known.placed (is_none q) Eat.identifier []
finds (Eat.upto b) q = Known.placed (is_none q) (Eat.upto b) []
finds (Eat.byte c) q = wide q
finds _ q = Known.some

abbrev pub makes : Make → Known → (Known → Bool) → Bool
makes (Make.one t) q go = may_hold t q && (has_result (is_signature t) q && go (Known.one t (is_full q)))
makes Make.dropped q go = go Known.empty
makes Make.index q go = go Known.some
makes (Make.longer k) (Known.placed true x tail) go = (k == length tail) && go (Known.longer x tail)
makes (Make.longer k) _ go = false
makes Make.data_member q go = is_plain q && go (wide q)

abbrev pub reads_word : List ℕ → Known → Known
reads_word w (Known.placed alone x tail) = Known.placed alone x (tail ++ w)
reads_word w q = q

abbrev pub marks_one : Known → (Known → Bool) → Bool
marks_one (Known.one t filled) go = is_substitutable t && go Known.some
marks_one _ go = false

abbrev pub behind_leaf : Leaf → Known → (Known → Bool) → Bool
behind_leaf (Leaf.word w) q go = go (reads_word w q)
behind_leaf (Leaf.eat (Eat.byte (Class.these []))) q go = true
behind_leaf (Leaf.eat x) q go = is_plain q && go (finds x q)
behind_leaf (Leaf.check Cond.never) q go = true
behind_leaf (Leaf.check c) q go = go q
behind_leaf (Leaf.make m) q go = makes m q go
behind_leaf (Leaf.mark m) q go = marks_one q go
behind_leaf Leaf.mark_first q go = is_plain q && go Known.some
behind_leaf Leaf.refer q go = go Known.some
behind_leaf Leaf.take_over q go = is_plain q && go Known.some
behind_leaf Leaf.no_prefix q go = true

-- ---- rules
-- The row that goes on from the parts so far may leave none where it began with none.
abbrev pub is_turn : Row → Bool
is_turn Row.prefix_turn = true
is_turn _ = false

-- what is read apart, behind the parts before it
abbrev pub put_behind : Known → Known → Known
put_behind Known.empty p = p
put_behind q p = some_if (is_full p) q

abbrev pub is_row : Known → Bool
is_row q = is_plain q && is_full q

-- Whatever way a rule is read, `go` holds of what is known behind it, and each node that was made on the way is sound.
abbrev pub leads : Rule → Known → (Known → Bool) → Bool
leads Rule.done q go = go q
leads (Rule.leaf l k) q go = behind_leaf l q (λ p. leads k p go)
leads (Rule.call on r k) q go = is_plain q && leads k (some_if (not (is_turn r)) q) go
leads (Rule.loop r k) q go = (is_row q && is_turn r) && leads k Known.some go
leads (Rule.star x k) q go = is_plain q && (leads x (wide q) (λ p. tells p (wide q)) && leads k (wide q) go)
leads (Rule.alt x y k) q go = leads x q (λ p. leads k p go) && leads y q (λ p. leads k p go)
leads (Rule.commit k) q go = leads k q go
leads (Rule.block x k) q go = is_plain q && (leads x Known.empty is_row && leads k Known.some go)
leads (Rule.part m x k) q go = is_plain q && leads x Known.empty (λ p. makes m p (λ p. is_plain p && leads k (put_behind q p) go))
leads (Rule.trial r k) q go = leads k q go

-- ---- the rows
abbrev pub ends_row : Row → Known → Bool
ends_row r q = is_plain q && (is_turn r || is_full q)

pub rows_lead : (r : Row) → leads (rule r) Known.empty (ends_row r) ≡ true
unfolding rule
rows_lead Row.number = refl
rows_lead _ = refl

pub turns_lead : (r : Row) → (not (is_turn r) || leads (rule r) Known.some is_row) ≡ true
unfolding rule
turns_lead Row.prefix_turn = refl
turns_lead _ = refl
