-- What contracts say of a tree, one step deep.
use Rattle.std.specs.Prelude.{ℕ, ℤ, pos, Bool, true, false, ◌==◌, ◌&&◌, List, []}
use Rattle.demangle_core.specs.Core.{code}
use Rattle.demangle_printing.specs.Texts.{leaf_text, word_text}
use Rattle.demangle_printing.specs.World.{Seen, nothing, node, bytes, number, flag, word}
use Rattle.demangle_lines.specs.declared.tree.Shape.{Shape}
use Rattle.demangle_lines.specs.declared.tree.Shape.TheVariants as of_shape
use Rattle.demangle_lines.specs.declared.tree.Number.{Number}
use Rattle.demangle_lines.specs.declared.tree.Number.TheVariants as of_number

abbrev pub shape_in : {X : Type 0} → Seen X → Shape
shape_in nothing = of_shape.Nothing
shape_in (node t xs) = of_shape.Node (code t)
shape_in (bytes bs) = of_shape.Bytes
shape_in (number v) = of_shape.Number
shape_in (flag b) = of_shape.Flag b
shape_in (word t k) = of_shape.Word t k

abbrev pub value_seen : {X : Type 0} → Seen X → ℤ
value_seen (number v) = v
value_seen _ = pos 0

abbrev pub number_of : Number → ℤ
number_of (of_number.Counted n) = pos n
number_of (of_number.Signed v) = v

-- the text of a word, and that of a component as a leaf name
abbrev pub text_seen : {X : Type 0} → Seen X → List ℕ
text_seen (word t k) = word_text t k
text_seen _ = []

abbrev pub leaf_text_seen : {X : Type 0} → Seen X → List ℕ
leaf_text_seen (word t k) = leaf_text k
leaf_text_seen _ = []

-- ---- tests of shapes
abbrev pub is_tag : ℕ → Shape → Bool
is_tag n (of_shape.Node k) = k == n
is_tag n _ = false

abbrev pub is_number : Shape → Bool
is_number of_shape.Number = true
is_number _ = false

abbrev pub flag_shape : Shape → Bool
flag_shape (of_shape.Flag b) = b
flag_shape _ = false

abbrev pub is_word_shape : (table word : ℕ) → Shape → Bool
is_word_shape t k (of_shape.Word u j) = (t == u) && (k == j)
is_word_shape t k _ = false
