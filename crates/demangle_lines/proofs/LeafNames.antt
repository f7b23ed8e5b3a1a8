-- Leaf names, by what they are.
use Rattle.std.proofs.Common.{◌≡◌, ℕ, Bool, true, false, ◌==◌, List, [], refl}
use Rattle.demangle_core.specs.Core.{Core, Tag, code}
use Rattle.demangle_printing.specs.World.{World, Seen, nothing, node, bytes, number, flag, word}
use Rattle.demangle_printing.specs.Act as job
use Rattle.demangle_printing.specs.Act.{Act, call, done, text}
use Rattle.demangle_printing.specs.Rules.{leaf_seen}
use Rattle.demangle_lines.specs.Shapes.{is_tag, leaf_text_seen, shape_in}
use Rattle.demangle_lines.specs.declared.tree.Shape.{Shape}
use Rattle.demangle_lines.specs.declared.tree.Shape.TheVariants as of_shape

leaf_of_source_code : (w : World Core) (x : Core) (xs : List Core) (t : Tag) → (code t == 12) ≡ true →
    call (job.line x) [] done ≡ leaf_seen w x (node t xs)
leaf_of_source_code w x xs Tag.SourceName e = refl
leaf_of_source_code w x xs _ e = absurd (cc e)

pub leaf_of_source : (w : World Core) (x : Core) (v : Seen Core) → is_tag 12 (shape_in v) ≡ true → call (job.line x) [] done ≡ leaf_seen w x v
leaf_of_source w x (node t xs) e = leaf_of_source_code w x xs t e
leaf_of_source w x nothing e = absurd (cc e)
leaf_of_source w x (bytes bs) e = absurd (cc e)
leaf_of_source w x (number i) e = absurd (cc e)
leaf_of_source w x (flag b) e = absurd (cc e)
leaf_of_source w x (word t k) e = absurd (cc e)

leaf_of_closure_code : (w : World Core) (x : Core) (xs : List Core) (t : Tag) → (code t == 52) ≡ true →
    call (job.line x) [] done ≡ leaf_seen w x (node t xs)
leaf_of_closure_code w x xs Tag.ClosureTypeName e = refl
leaf_of_closure_code w x xs _ e = absurd (cc e)

pub leaf_of_closure : (w : World Core) (x : Core) (v : Seen Core) → is_tag 52 (shape_in v) ≡ true → call (job.line x) [] done ≡ leaf_seen w x v
leaf_of_closure w x (node t xs) e = leaf_of_closure_code w x xs t e
leaf_of_closure w x nothing e = absurd (cc e)
leaf_of_closure w x (bytes bs) e = absurd (cc e)
leaf_of_closure w x (number i) e = absurd (cc e)
leaf_of_closure w x (flag b) e = absurd (cc e)
leaf_of_closure w x (word t k) e = absurd (cc e)

leaf_of_unnamed_code : (w : World Core) (x : Core) (xs : List Core) (t : Tag) → (code t == 24) ≡ true →
    call (job.leaf x) [] done ≡ leaf_seen w x (node t xs)
leaf_of_unnamed_code w x xs Tag.UnnamedTypeName e = refl
leaf_of_unnamed_code w x xs _ e = absurd (cc e)

pub leaf_of_unnamed : (w : World Core) (x : Core) (v : Seen Core) → is_tag 24 (shape_in v) ≡ true → call (job.leaf x) [] done ≡ leaf_seen w x v
leaf_of_unnamed w x (node t xs) e = leaf_of_unnamed_code w x xs t e
leaf_of_unnamed w x nothing e = absurd (cc e)
leaf_of_unnamed w x (bytes bs) e = absurd (cc e)
leaf_of_unnamed w x (number i) e = absurd (cc e)
leaf_of_unnamed w x (flag b) e = absurd (cc e)
leaf_of_unnamed w x (word t k) e = absurd (cc e)

pub leaf_of_word : (w : World Core) (x : Core) (v : Seen Core) {t k : ℕ} → of_shape.Word t k ≡ shape_in v →
    text (leaf_text_seen v) done ≡ leaf_seen w x v
leaf_of_word w x (word t k) e = refl
leaf_of_word w x nothing e = absurd (cc e)
leaf_of_word w x (node t xs) e = absurd (cc e)
leaf_of_word w x (bytes bs) e = absurd (cc e)
leaf_of_word w x (number i) e = absurd (cc e)
leaf_of_word w x (flag b) e = absurd (cc e)

other_code : (w : World Core) (x : Core) (xs : List Core) (t : Tag) → (code t == 12) ≡ false →
    (code t == 52) ≡ false → (code t == 24) ≡ false → done ≡ leaf_seen w x (node t xs)
other_code w x xs Tag.SourceName e f g = absurd (cc e)
other_code w x xs Tag.ClosureTypeName e f g = absurd (cc f)
other_code w x xs Tag.UnnamedTypeName e f g = absurd (cc g)
other_code w x xs _ e f g = refl

pub leaf_of_other : (w : World Core) (x : Core) (v : Seen Core) → is_tag 12 (shape_in v) ≡ false →
    is_tag 52 (shape_in v) ≡ false → is_tag 24 (shape_in v) ≡ false →
    ((t k : ℕ) → shape_in v ≡ of_shape.Word t k → ⊥) → done ≡ leaf_seen w x v
leaf_of_other w x (node t xs) e f g h = other_code w x xs t e f g
leaf_of_other w x nothing e f g h = refl
leaf_of_other w x (bytes bs) e f g h = refl
leaf_of_other w x (number i) e f g h = refl
leaf_of_other w x (flag b) e f g h = refl
leaf_of_other w x (word t k) e f g h = absurd (h t k refl)
