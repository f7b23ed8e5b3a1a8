-- The text of a whole name.
use Rattle.std.specs.Prelude.{◌≤◌, ◌*◌, ◌==◌, codes, Some, None}
use Rattle.std.proofs.Common.{◌≡◌, refl, sym, ap, subst, ◌∙◌, arith, ℕ, zero, suc, ◌+◌, Bool, true, false, List, [], ◌∷◌, ◌++◌, length, length-append, append-nil, append_assoc}
use Rattle.demangle_core.specs.Sound.{ReferBack}
use Rattle.demangle_vocab.specs.WordTable.{text_at}
use Rattle.demangle_vocab.specs.Builtins.{builtins}
use Rattle.demangle_grammar.specs.Rule.{Row}
use Rattle.demangle_grammar.specs.Sound.{IsSoundFor}
use Rattle.demangle_grammar.specs.Code.{here}
use Rattle.demangle_grammar.proofs.SoundFor.{name_is_sound}
use Rattle.demangle_printing.specs.State.{Event, Fault, Answer, yes, no}
use Rattle.demangle_printing.specs.Trees.{with_table, without_table}
use Rattle.demangle_printing.specs.Outcome.{Options, Shown, printed, outcome, outcome_of, text_of, after_reading}
use Rattle.demangle_printing.specs.Laws.{holds_param, is_param, told}
use Rattle.demangle_printing.proofs.Shared.{sharing_is_invisible}
use Rattle.cpp_mangle.specs.Declarations.{PlainType, Path, Modifier, PlainDecl, path_text, behind_parts, type_text, types_text, behind_types, decl_text, modifier_text}
use Rattle.cpp_mangle.specs.Declarations as decl
use Rattle.cpp_mangle.proofs.Rows.{spot}
use Rattle.cpp_mangle.proofs.Printed.{IsText, Ends, Scoped, one, more, scoped_text, IsScopedText, levels, Typed, typed_text, IsObject, IsParam, AreParams, type_levels, behind_texts, texts, is_void_type, is_void_alone, params_text, row, Named, alone, within, typed, entity, name_tree, Told}
use Rattle.cpp_mangle.proofs.Printed as printed
use Rattle.cpp_mangle.proofs.Tables.{parts, plain}
use Rattle.cpp_mangle.proofs.Names.{plain_all, named_path, WholeRead}
use Rattle.cpp_mangle.proofs.Functions.{whole_tree, named_text, IsNamedText, NamedFits, whole_told}

-- ---- texts
behind_more : (ps : Path) (p : List ℕ) → behind_parts (ps ++ p ∷ []) ≡ behind_parts ps ++ (codes "::" ++ p)
behind_more [] p = ap (λ z. 58 ∷ 58 ∷ z) (append-nil p)
behind_more (q ∷ ps) p = ap (λ z. 58 ∷ 58 ∷ z) (ap (λ z. q ++ z) (behind_more ps p) ∙ sym (append_assoc q (behind_parts ps) (codes "::" ++ p)))

path_more : (q : List ℕ) (ps : Path) (p : List ℕ) → path_text ((q ∷ ps) ++ p ∷ []) ≡ path_text (q ∷ ps) ++ (codes "::" ++ p)
path_more q ps p = ap (λ z. q ++ z) (behind_more ps p) ∙ sym (append_assoc q (behind_parts ps) (codes "::" ++ p))

-- the parts are some
some_parts : (q : Scoped) → (p : List ℕ) × (ps : Path) × (parts q ≡ p ∷ ps)
some_parts (one b p) = (p, [], refl)
some_parts (more b q p) = let s = some_parts q in (s.0, s.1 ++ p ∷ [], ap (λ z. z ++ p ∷ []) s.2)

scoped_is : (q : Scoped) → scoped_text q ≡ path_text (parts q)
scoped_is (one b p) = sym (append-nil p)
scoped_is (more b q p) =
    let s = some_parts q in
    ap (λ z. z ++ (codes "::" ++ p)) (scoped_is q ∙ ap path_text s.2) ∙ sym (path_more s.0 s.1 p) ∙ ap (λ z. path_text (z ++ p ∷ [])) (sym s.2)

pub typed_is : (t : Typed) → typed_text t ≡ type_text (plain t)
typed_is (printed.builtin k) = refl
typed_is (printed.scoped q) = scoped_is q
typed_is (printed.of m t) = ap (λ z. z ++ modifier_text m) (typed_is t)

behind_is : (ts : List Typed) → behind_texts ts ≡ behind_types (plain_all [] ts)
behind_is [] = refl
behind_is (t ∷ ts) = λ i. 44 ∷ 32 ∷ (typed_is t i ++ behind_is ts i)

texts_are : (ts : List Typed) → texts ts ≡ types_text (plain_all [] ts)
texts_are [] = refl
texts_are (t ∷ ts) = λ i. typed_is t i ++ behind_is ts i

-- ---- which texts and how many levels
abbrev pub AllText : Path → Type 0
AllText [] = Unit {0}
AllText (p ∷ ps) = IsText p × AllText ps

all_front : (ps : Path) (p : List ℕ) → AllText (ps ++ p ∷ []) → AllText ps × IsText p
all_front [] p h = (tt, h.0)
all_front (q ∷ ps) p h = let g = all_front ps p h.1 in ((h.0, g.0), g.1)

scoped_text_is : (q : Scoped) → AllText (parts q) → IsScopedText q
scoped_text_is (one b p) h = h.0
scoped_text_is (more b q p) h = let g = all_front (parts q) p h in (scoped_text_is q g.0, g.1)

abbrev pub TypeText : PlainType → Type 0
TypeText (decl.builtin k) = Ends (text_at builtins k)
TypeText (decl.class ps) = AllText ps
TypeText (decl.of m t) = (decl.is_reference m ≡ false) × TypeText t

abbrev pub ParamText : PlainType → Type 0
ParamText (decl.of m t) = TypeText t
ParamText (decl.builtin k) = Ends (text_at builtins k)
ParamText (decl.class ps) = AllText ps

object_is : (t : Typed) → TypeText (plain t) → IsObject t
object_is (printed.builtin k) h = h
object_is (printed.scoped q) h = scoped_text_is q h
object_is (printed.of m t) h = (h.0, object_is t h.1)

pub param_is : (t : Typed) → ParamText (plain t) → IsParam t
param_is (printed.builtin k) h = h
param_is (printed.scoped q) h = scoped_text_is q h
param_is (printed.of m t) h = object_is t h

levels_are : (q : Scoped) → levels q ≤ 4 * length (parts q) + 3
levels_are (one true p) = omega arith
levels_are (one false p) = omega arith
levels_are (more true q p) = omega (arith, levels_are q, length-append (parts q) (p ∷ []))
levels_are (more false q p) = omega (arith, levels_are q, length-append (parts q) (p ∷ []))

-- a type of so many parts and modifiers
abbrev pub size : PlainType → ℕ
size (decl.builtin k) = 2
size (decl.class ps) = 4 * length ps + 3
size (decl.of m t) = suc (size t)

pub type_levels_are : (t : Typed) → type_levels t ≤ size (plain t)
type_levels_are (printed.builtin k) = omega arith
type_levels_are (printed.scoped q) = levels_are q
type_levels_are (printed.of m t) = omega (arith, type_levels_are t)

abbrev pub ParamsText : List PlainType → Type 0
ParamsText [] = Unit {0}
ParamsText (t ∷ ts) = ParamText t × (size t ≤ 122) × ParamsText ts

params_are : (ts : List Typed) → ParamsText (plain_all [] ts) → AreParams 122 ts
params_are [] h = tt
params_are (t ∷ ts) h = (param_is t h.0, omega (arith, h.1, type_levels_are t), params_are ts h.2)

-- ---- no template parameter
handle_free : (b : Bool) → is_param (printed.handle b) ≡ false
handle_free true = refl
handle_free false = refl

tag_free : (q : Scoped) → is_param (printed.tag_of q) ≡ false
tag_free (one true p) = refl
tag_free (one false p) = refl
tag_free (more true q p) = refl
tag_free (more false q p) = refl

parts_free : (q : Scoped) → holds_param (printed.parts_of q) ≡ false
parts_free (one true p) = refl
parts_free (one false p) = refl
parts_free (more true q p) = rw (handle_free (printed.is_type q), tag_free q, parts_free q) refl
parts_free (more false q p) = rw (handle_free (printed.is_type q), tag_free q, parts_free q) refl

pub handle_of_free : (t : Typed) → is_param (printed.handle_of t) ≡ false
handle_of_free (printed.builtin k) = refl
handle_of_free (printed.scoped q) = handle_free (printed.is_type q)
handle_of_free (printed.of m t) = refl

pub shown_tag_free : (t : Typed) → is_param (printed.shown_tag t) ≡ false
shown_tag_free (printed.builtin k) = refl
shown_tag_free (printed.scoped q) = tag_free q
shown_tag_free (printed.of decl.pointer t) = refl
shown_tag_free (printed.of decl.lvalue t) = refl
shown_tag_free (printed.of decl.rvalue t) = refl
shown_tag_free (printed.of decl.const t) = refl

pub shown_free : (t : Typed) → holds_param (printed.shown_parts t) ≡ false
shown_free (printed.builtin k) = refl
shown_free (printed.scoped q) = parts_free q
shown_free (printed.of decl.pointer t) = rw (handle_of_free t, shown_tag_free t, shown_free t) refl
shown_free (printed.of decl.lvalue t) = rw (handle_of_free t, shown_tag_free t, shown_free t) refl
shown_free (printed.of decl.rvalue t) = rw (handle_of_free t, shown_tag_free t, shown_free t) refl
shown_free (printed.of decl.const t) = rw (handle_of_free t, shown_tag_free t, shown_free t) refl

row_free : (ts : List Typed) → holds_param (row ts) ≡ false
row_free [] = refl
row_free (t ∷ ts) = rw (handle_of_free t, shown_tag_free t, shown_free t, row_free ts) refl

whole_free : (f : Named) (ts : List Typed) → holds_param (whole_tree f ts) ≡ false
whole_free (alone p) ts = rw (row_free ts) refl
whole_free (within q p) ts = rw (handle_free (printed.is_type q), tag_free q, parts_free q, row_free ts) refl

-- ---- the text
abbrev pub default : Options
default = record { limit = 128; no_params = false; no_return_type = false; hide_expression_literal_types = false; output_limit = None }

pub shown_by : {X : Type 0} (a : Answer X) (es : List Event) (text : List ℕ) → told a ≡ (es, None) → text_of es ≡ text → outcome_of a ≡ Shown text
shown_by (yes m t) es text e h = ap Shown (ap text_of (ap (λ z. z.0) e) ∙ h)
shown_by (no m f) es text e h = absurd (some_none f (ap (λ z. z.1) e))
  where
    some_none : (f : Fault) → Some f ≡ None → ⊥
    some_none f e = cc

named_is : (f : Named) → named_text f ≡ path_text (named_path [] f)
named_is (alone p) = sym (append-nil p)
named_is (within q p) = scoped_is (more true q p)

named_text_is : (f : Named) → AllText (named_path [] f) → IsNamedText f
named_text_is (alone p) h = h.0
named_text_is (within q p) h = let g = all_front (parts q) p h in (scoped_text_is q g.0, g.1)

named_fits : (f : Named) → length (named_path [] f) ≤ 16 → NamedFits 123 f
named_fits (alone p) h = tt
named_fits (within q p) h = omega (arith, h, levels_are q, length-append (parts q) (p ∷ []))

-- `void` alone stands for no parameters
abbrev pub is_void_only : List PlainType → Bool
is_void_only [] = false
is_void_only (t ∷ []) = decl.is_void t
is_void_only (t ∷ u ∷ ts) = false

abbrev pub text_behind : Bool → List PlainType → List ℕ
text_behind true ts = codes "()"
text_behind false ts = codes "(" ++ (types_text ts ++ codes ")")

not_zero : (k : ℕ) → (0 == suc k) ≡ false
not_zero k = grind arith

void_is : (ts : List Typed) → is_void_alone ts ≡ is_void_only (plain_all [] ts)
void_is [] = refl
void_is (printed.builtin zero ∷ []) = refl
void_is (printed.builtin (suc k) ∷ []) = not_zero k
void_is (printed.scoped q ∷ []) = refl
void_is (printed.of m t ∷ []) = refl
void_is (t ∷ u ∷ ts) = refl

text_is : (b : Bool) (ts : List Typed) → params_text b ts ≡ text_behind b (plain_all [] ts)
text_is true ts = refl
text_is false ts = ap (λ z. 40 ∷ (z ++ codes ")")) (texts_are ts)

module _ (input : List ℕ) (path : Path) (ts es : List PlainType) (w : WholeRead input path ts es) (t : AllText path) (l : length path ≤ 16) (p : ParamsText ts) where
  pub sound : IsSoundFor input w.table w.tree
  sound = name_is_sound input 95 Row.mangled_name false (here (spot w.index []) w.table) w.tree w.is

  pub refers_back : ReferBack [] w.table
  refers_back = sound.entries.refer_back

  pub name_shown : outcome 96 default input ≡ Shown (path_text path ++ text_behind (is_void_only ts) ts)
  unfolding outcome
  name_shown =
      let g = w.shows refers_back in
      let f = g.0 in
      let xs = g.2.0 in
      let r = whole_told f xs (named_text_is f (subst AllText (sym g.1) t)) (named_fits f (subst (λ z. length z ≤ 16) (sym g.1) l)) (params_are xs (subst ParamsText (sym g.2.1) p)) in
      let same = sharing_is_invisible w.table input w.tree default sound (ap holds_param g.2.2 ∙ whole_free f xs) in
      let events : told (printed (with_table w.table input) default w.tree) ≡ (r.events, None) = same ∙ ap (λ z. told (printed without_table default z)) g.2.2 ∙ ap told r.is in
      let text : named_text f ++ params_text (is_void_alone xs) xs ≡ path_text path ++ text_behind (is_void_only ts) ts =
      (λ i. named_is f i ++ text_is (is_void_alone xs) xs i) ∙ (λ i. path_text (g.1 i) ++ text_behind (void_is xs i) (plain_all [] xs)) ∙ ap (λ z. path_text path ++ text_behind (is_void_only z) z) g.2.1 in
      ap (λ z. after_reading input default z) w.is ∙ shown_by (printed (with_table w.table input) default w.tree) r.events (path_text path ++ text_behind (is_void_only ts) ts) events (r.told ∙ text)
