-- What a tree is, one step deep, and what its texts and the tests of it are then.
use Rattle.std.proofs.Common.{◌≡◌, ℕ, Bool, true, false, ◌==◌, ◌&&◌, List, [], ◌∷◌, Some, refl, pos, ◌+ℤ◌}
use Rattle.std.specs.Fmt.{decimal, signed_decimal}
use Rattle.demangle_core.specs.Core.{Core, Tag, code}
use Rattle.demangle_printing.specs.World.{World, Seen, find, see, nothing, node, bytes, number, flag, word}
use Rattle.demangle_printing.specs.Act.{Act, done, text}
use Rattle.demangle_printing.specs.Reader.{bytes_seen, input_text, is_bare_node, is_external, is_present, spelled_act}
use Rattle.demangle_printing.specs.Rules.{is_seen_word, is_set, tag_seen}
use Rattle.demangle_printing.specs.Texts.{ordinal_of}
use Rattle.demangle_lines.specs.Shapes.{flag_shape, is_tag, is_word_shape, is_number, shape_in, text_seen, value_seen}
use Rattle.demangle_lines.specs.declared.tree.Shape.{Shape}
use Rattle.demangle_lines.specs.declared.tree.Shape.TheVariants as of_shape

-- ---- texts
pub spelled_bytes : (v : Seen Core) → of_shape.Bytes ≡ shape_in v → input_text (bytes_seen v) ≡ spelled_act v
spelled_bytes (bytes bs) e = refl
spelled_bytes nothing e = absurd (cc e)
spelled_bytes (node t xs) e = absurd (cc e)
spelled_bytes (number i) e = absurd (cc e)
spelled_bytes (flag b) e = absurd (cc e)
spelled_bytes (word t k) e = absurd (cc e)

pub spelled_number : (v : Seen Core) → of_shape.Number ≡ shape_in v →
    text (signed_decimal (value_seen v)) done ≡ spelled_act v
spelled_number (number i) e = refl
spelled_number nothing e = absurd (cc e)
spelled_number (node t xs) e = absurd (cc e)
spelled_number (bytes bs) e = absurd (cc e)
spelled_number (flag b) e = absurd (cc e)
spelled_number (word t k) e = absurd (cc e)

pub spelled_word : (v : Seen Core) {t k : ℕ} → of_shape.Word t k ≡ shape_in v → text (text_seen v) done ≡ spelled_act v
spelled_word (word t k) e = refl
spelled_word nothing e = absurd (cc e)
spelled_word (node t xs) e = absurd (cc e)
spelled_word (bytes bs) e = absurd (cc e)
spelled_word (number i) e = absurd (cc e)
spelled_word (flag b) e = absurd (cc e)

pub spelled_nothing : (v : Seen Core) → of_shape.Nothing ≡ shape_in v → text [] done ≡ spelled_act v
spelled_nothing nothing e = refl
spelled_nothing (node t xs) e = absurd (cc e)
spelled_nothing (bytes bs) e = absurd (cc e)
spelled_nothing (number i) e = absurd (cc e)
spelled_nothing (flag b) e = absurd (cc e)
spelled_nothing (word t k) e = absurd (cc e)

pub spelled_node : (v : Seen Core) {n : ℕ} → of_shape.Node n ≡ shape_in v → text [] done ≡ spelled_act v
spelled_node (node t xs) e = refl
spelled_node nothing e = absurd (cc e)
spelled_node (bytes bs) e = absurd (cc e)
spelled_node (number i) e = absurd (cc e)
spelled_node (flag b) e = absurd (cc e)
spelled_node (word t k) e = absurd (cc e)

pub spelled_flag : (v : Seen Core) {b : Bool} → of_shape.Flag b ≡ shape_in v → text [] done ≡ spelled_act v
spelled_flag (flag b) e = refl
spelled_flag nothing e = absurd (cc e)
spelled_flag (node t xs) e = absurd (cc e)
spelled_flag (bytes bs) e = absurd (cc e)
spelled_flag (number i) e = absurd (cc e)
spelled_flag (word t k) e = absurd (cc e)

pub ordinal_number : (none plus : ℕ) (v : Seen Core) → is_number (shape_in v) ≡ true →
    signed_decimal (value_seen v +ℤ pos plus) ≡ ordinal_of none plus v
ordinal_number none plus (number i) e = refl
ordinal_number none plus nothing e = absurd (cc e)
ordinal_number none plus (node t xs) e = absurd (cc e)
ordinal_number none plus (bytes bs) e = absurd (cc e)
ordinal_number none plus (flag b) e = absurd (cc e)
ordinal_number none plus (word t k) e = absurd (cc e)

pub no_ordinal : (none plus : ℕ) (v : Seen Core) → is_number (shape_in v) ≡ false →
    decimal none ≡ ordinal_of none plus v
no_ordinal none plus (number i) e = absurd (cc e)
no_ordinal none plus nothing e = refl
no_ordinal none plus (node t xs) e = refl
no_ordinal none plus (bytes bs) e = refl
no_ordinal none plus (flag b) e = refl
no_ordinal none plus (word t k) e = refl

pub no_bytes : (v : Seen Core) → (shape_in v ≡ of_shape.Bytes → ⊥) → bytes_seen v ≡ []
no_bytes (bytes bs) e = absurd (e refl)
no_bytes nothing e = refl
no_bytes (node t xs) e = refl
no_bytes (number i) e = refl
no_bytes (flag b) e = refl
no_bytes (word t k) e = refl

-- ---- tests
present_code : (t : Tag) → (code t == 0) ≡ is_present t
present_code Tag.Present = refl
present_code _ = refl

external_code : (t : Tag) → (code t == 144) ≡ is_external t
external_code Tag.ExprPrimaryExternal = refl
external_code _ = refl

pub present_is : (v : Seen Core) → is_tag 0 (shape_in v) ≡ is_present (tag_seen v)
present_is (node t xs) = present_code t
present_is nothing = refl
present_is (bytes bs) = refl
present_is (number i) = refl
present_is (flag b) = refl
present_is (word t k) = refl

pub external_is : (v : Seen Core) → is_tag 144 (shape_in v) ≡ is_external (tag_seen v)
external_is (node t xs) = external_code t
external_is nothing = refl
external_is (bytes bs) = refl
external_is (number i) = refl
external_is (flag b) = refl
external_is (word t k) = refl

pub set_is : (v : Seen Core) → flag_shape (shape_in v) ≡ is_set v
set_is (flag b) = refl
set_is nothing = refl
set_is (node t xs) = refl
set_is (bytes bs) = refl
set_is (number i) = refl
set_is (word t k) = refl

pub word_is : (t k : ℕ) (v : Seen Core) → is_word_shape t k (shape_in v) ≡ is_seen_word t k v
word_is t k (word u j) = refl
word_is t k nothing = refl
word_is t k (node u xs) = refl
word_is t k (bytes bs) = refl
word_is t k (number i) = refl
word_is t k (flag b) = refl

-- ---- operands
param_code : (w : World Core) (x : Core) (t : Tag) → (code t == 118) ≡ true → true ≡ is_bare_node w x t
param_code w x Tag.ExpressionFunctionParam e = refl
param_code w x _ e = absurd (cc e)

primary_code : (w : World Core) (x : Core) (t : Tag) → (code t == 130) ≡ true →
    is_external (tag_seen (see w (find w (Some x) (0 ∷ [])))) ≡ is_bare_node w x t
primary_code w x Tag.ExpressionPrimary e = refl
primary_code w x _ e = absurd (cc e)

other_code : (w : World Core) (x : Core) (t : Tag) → (code t == 118) ≡ false → (code t == 130) ≡ false →
    false ≡ is_bare_node w x t
other_code w x Tag.ExpressionFunctionParam e f = absurd (cc e)
other_code w x Tag.ExpressionPrimary e f = absurd (cc f)
other_code w x _ e f = refl

-- by what it is
pub bare_param : (w : World Core) (x : Core) (v : Seen Core) → is_tag 118 (shape_in v) ≡ true →
    true ≡ is_bare_node w x (tag_seen v)
bare_param w x (node t xs) e = param_code w x t e
bare_param w x nothing e = absurd (cc e)
bare_param w x (bytes bs) e = absurd (cc e)
bare_param w x (number i) e = absurd (cc e)
bare_param w x (flag b) e = absurd (cc e)
bare_param w x (word t k) e = absurd (cc e)

pub bare_primary : (w : World Core) (x : Core) (v : Seen Core) → is_tag 130 (shape_in v) ≡ true →
    is_external (tag_seen (see w (find w (Some x) (0 ∷ [])))) ≡ is_bare_node w x (tag_seen v)
bare_primary w x (node t xs) e = primary_code w x t e
bare_primary w x nothing e = absurd (cc e)
bare_primary w x (bytes bs) e = absurd (cc e)
bare_primary w x (number i) e = absurd (cc e)
bare_primary w x (flag b) e = absurd (cc e)
bare_primary w x (word t k) e = absurd (cc e)

pub bare_other : (w : World Core) (x : Core) (v : Seen Core) → is_tag 118 (shape_in v) ≡ false →
    is_tag 130 (shape_in v) ≡ false → false ≡ is_bare_node w x (tag_seen v)
bare_other w x (node t xs) e f = other_code w x t e f
bare_other w x nothing e f = refl
bare_other w x (bytes bs) e f = refl
bare_other w x (number i) e f = refl
bare_other w x (flag b) e f = refl
bare_other w x (word t k) e f = refl
