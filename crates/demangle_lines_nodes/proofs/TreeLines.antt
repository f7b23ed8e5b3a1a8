-- The steps of a tree, by what it is.
use Rattle.std.proofs.Common.{◌≡◌, ℕ, [], ap, refl, sym, ◌∙◌}
use Rattle.demangle_core.specs.Core.{Core, Tag, code}
use Rattle.demangle_printing.specs.World.{Seen, nothing, node, bytes, number, flag, word}
use Rattle.demangle_printing.specs.Lines.{line_steps}
use Rattle.demangle_printing.specs.Print.{steps_for}
use Rattle.demangle_printing.specs.Step.{Piece, Step}
use Rattle.demangle_lines.specs.Shapes.{shape_in}
use Rattle.demangle_lines.specs.declared.tree.Shape.TheVariants as of_shape
use Rattle.demangle_lines_nodes.specs.Tags.{tag_at}
use Rattle.demangle_lines_nodes.proofs.Behind.{tag_is}

pub node_line : (v : Seen Core) {n : ℕ} → of_shape.Node n ≡ shape_in v → steps_for v ≡ line_steps (tag_at n)
node_line (node t xs) {n} e =
    let k : n ≡ code t = cc in sym (ap (λ z. line_steps (tag_at z)) k ∙ ap line_steps (tag_is t))
node_line nothing e = absurd (cc e)
node_line (bytes bs) e = absurd (cc e)
node_line (number i) e = absurd (cc e)
node_line (flag b) e = absurd (cc e)
node_line (word t k) e = absurd (cc e)

pub word_line : (v : Seen Core) {t k : ℕ} → of_shape.Word t k ≡ shape_in v →
    steps_for v ≡ Step.say (Piece.spelled []) Step.done
word_line (word t k) e = refl
word_line nothing e = absurd (cc e)
word_line (node t xs) e = absurd (cc e)
word_line (bytes bs) e = absurd (cc e)
word_line (number i) e = absurd (cc e)
word_line (flag b) e = absurd (cc e)

pub no_line : (v : Seen Core) → ((n : ℕ) → shape_in v ≡ of_shape.Node n → ⊥) →
    ((t k : ℕ) → shape_in v ≡ of_shape.Word t k → ⊥) → steps_for v ≡ Step.done
no_line (node t xs) h f = absurd (h (code t) refl)
no_line (word t k) h f = absurd (f t k refl)
no_line nothing h f = refl
no_line (bytes bs) h f = refl
no_line (number i) h f = refl
no_line (flag b) h f = refl
