-- The name of a declaration is shown as the declaration's text.
use Rattle.std.specs.List.{list_all}
use Rattle.std.specs.Prelude.{◌≤◌, ◌<◌, ◌*◌, ◌&&◌, ◌==◌, not, nat_le, drop, slice_get, codes, Option, Some, None}
use Rattle.std.proofs.Common.{◌≡◌, refl, sym, ap, subst, ◌∙◌, arith, ℕ, suc, ◌+◌, Bool, true, false, List, [], ◌∷◌, ◌++◌, length, length-append, append_assoc}
use Rattle.std.proofs.lemmas.Bool.{eqb-true, leb-true, ltb-true}
use Rattle.std.proofs.lemmas.List.{drop-drop}
use Rattle.std.proofs.lemmas.Str.{is_utf8-from_IsUtf8}
use Rattle.demangle_text.proofs.Identifiers.{chars_are_text, run_is_whole}
use Rattle.demangle_text.specs.Word.{starts}
use Rattle.demangle_vocab.specs.WordTable.{text_at}
use Rattle.demangle_vocab.specs.Builtins.{builtins}
use Rattle.demangle_printing.specs.State.{last_of, is_byte}
use Rattle.demangle_printing.specs.Texts.{is_anonymous}
use Rattle.demangle_printing.specs.Outcome.{outcome, Shown, outcome_of, printed}
use Rattle.demangle_printing.specs.Trees.{with_table}
use Rattle.cpp_mangle.proofs.Components.{component, component_shown, good_entities}
use Rattle.demangle_grammar.proofs.Truth.{both_true}
use Rattle.demangle_grammar.specs.Code.{here}
use Rattle.cpp_mangle.specs.Laws.{AreShown, AreNumbered}
use Rattle.cpp_mangle.specs.Declarations.{PlainType, Path, Ident, PlainDecl, builtin, class, of, fronts_behind, fronts, proper, mentioned, place, with, with_all, with_types, unless_there, is_ident, is_name_byte, is_path, is_object, is_type, is_param, is_void, is_decl, is_reference, may_stand_on, modifiers, types_bytes, path_bytes, path_text, type_text, source_name, source_names, longest_behind, nested_from, mangled, decl_text, entities}
use Rattle.cpp_mangle.proofs.Prefixes.{below_true}
use Rattle.cpp_mangle.proofs.Printed.{IsText, Ends}
use Rattle.cpp_mangle.proofs.Types.{Spelled, a_builtin, a_reference, a_modifier, a_class, a_path, a_path_behind, steps}
use Rattle.cpp_mangle.proofs.Names.{SpelledAll, no_more, one_more, StepsFit, NameRead, alone_read, within_read, WholeRead, whole_read}
use Rattle.cpp_mangle.proofs.Bytes.{source_is, sources_are, ident_parts, identifier_is}
use Rattle.cpp_mangle.specs.Closed.{Closed}
use Rattle.cpp_mangle.proofs.Lists.{closed_none, closed_type, AllNew, fronts_added, fronts_more, proper_more}
use Rattle.cpp_mangle.proofs.Format.{Fine, BeginsWell, type_begins, type_spelled, count}
use Rattle.cpp_mangle.proofs.Whole.{AllText, TypeText, ParamText, ParamsText, size, default, is_void_only, text_behind, name_shown}

-- ---- the types of a function
abbrev AllFine : List PlainType → Type 0
AllFine [] = Unit {0}
AllFine (t ∷ ts) = Fine t × AllFine ts

abbrev Bounded : List PlainType → List PlainType → Type 0
Bounded [] xs = Unit {0}
Bounded (t ∷ ts) xs = (length xs ≤ 2199) × Bounded ts (with_all (mentioned t) xs)

types_begin : (ts xs : List PlainType) → AllFine ts → BeginsWell (types_bytes ts xs)
types_begin [] xs h = (refl, refl, refl)
types_begin (t ∷ ts) xs h = type_begins t xs (types_bytes ts (with_all (mentioned t) xs)) h.0

types_spelled : (input : List ℕ) (ts xs : List PlainType) → AllFine ts → Bounded ts xs → Closed xs → SpelledAll input ts (types_bytes ts xs) xs (with_types ts xs)
types_spelled input [] xs h b c = no_more
types_spelled input (t ∷ ts) xs h b c =
    let ys = with_all (mentioned t) xs in
    one_more (type_spelled input t xs (types_bytes ts ys) h.0 (types_begin ts ys h.1) b.0 c) (types_spelled input ts ys h.1 b.1 (closed_type t xs c).0)

few_steps : (input : List ℕ) {t : PlainType} {bs rest : List ℕ} {es fs : List PlainType} → (h : Spelled input t bs rest es fs) → steps input h ≤ 9 + modifiers t
few_steps input (a_builtin n q d) = omega arith
few_steps input (a_reference k r l g) = omega arith
few_steps input (a_modifier n h) = omega (arith, few_steps input h)
few_steps input (a_class h a b) = omega arith
few_steps input (a_path h) = omega arith
few_steps input (a_path_behind k mid q ps qs e r g h) = omega arith

abbrev FewModifiers : List PlainType → Type 0
FewModifiers [] = Unit {0}
FewModifiers (t ∷ ts) = (modifiers t ≤ 16) × FewModifiers ts

steps_fit : (input : List ℕ) {ts : List PlainType} {bs : List ℕ} {es fs : List PlainType} → FewModifiers ts → (h : SpelledAll input ts bs es fs) → StepsFit input 92 h
steps_fit input m no_more = tt
steps_fit input m (one_more h more) = (omega (arith, few_steps input h, m.0), steps_fit input m.1 more)

-- ---- how many entities
added_few : (ys xs : List PlainType) → length (with_all ys xs) ≤ length xs + length ys
added_few [] xs = omega arith
added_few (y ∷ ys) xs = omega (arith, added_few ys (with y xs), by (place y xs))
  where
    by : (o : Option ℕ) → length (unless_there o y xs) ≤ length xs + 1
    by None = omega (arith, length-append xs (y ∷ []))
    by (Some k) = omega arith

fronts_count : (acc qs : Path) → length (fronts_behind acc qs) ≡ length qs
fronts_count acc [] = refl
fronts_count acc (q ∷ qs) = ap suc (fronts_count (acc ++ q ∷ []) qs)

abbrev SmallTypes : List PlainType → Type 0
SmallTypes [] = Unit {0}
SmallTypes (t ∷ ts) = (length (mentioned t) ≤ 32) × SmallTypes ts

bounded : (ts xs : List PlainType) → SmallTypes ts → length xs + 32 * length ts ≤ 2199 → Bounded ts xs
bounded [] xs s l = tt
bounded (t ∷ ts) xs s l = (omega (arith, l), bounded ts (with_all (mentioned t) xs) s.1 (omega (arith, l, s.0, added_few (mentioned t) xs)))

-- ---- the scope of a function's name
all_new : (ys : List PlainType) → AllNew ys []
all_new [] = tt
all_new (y ∷ ys) = (refl, all_new ys)

last_part : (q : Ident) (qs : Path) → (front : Path) × (last : Ident) × (front ++ last ∷ [] ≡ q ∷ qs)
last_part q [] = ([], q, refl)
last_part q (r ∷ qs) = let g = last_part r qs in (q ∷ g.0, g.1, ap (λ z. q ∷ z) g.2)

scope_added : (q : Ident) (qs : Path) → with_all (proper (fronts (q ∷ qs))) [] ≡ proper (fronts (q ∷ qs))
scope_added q qs =
    let g = last_part q qs in
    let e : proper (fronts (q ∷ qs)) ≡ fronts g.0 = ap (λ z. proper (fronts z)) (sym g.2) ∙ ap proper (fronts_more [] g.0 g.1) ∙ proper_more (fronts g.0) (class (g.0 ++ g.1 ∷ [])) in
    ap (λ z. with_all z []) e ∙ fronts_added [] g.0 [] (all_new (fronts g.0)) ∙ sym e

none_longest : (acc qs : Path) → longest_behind acc qs [] None ≡ None
none_longest acc [] = refl
none_longest acc (q ∷ []) = refl
none_longest acc (q ∷ r ∷ qs) = none_longest (acc ++ q ∷ []) (r ∷ qs)

name_read : (input : List ℕ) (path : Path) (mid : List ℕ) → 1 ≤ length path → list_all is_ident path ≡ true → BeginsWell mid → drop 2 input ≡ path_bytes path [] ++ mid → NameRead input (path_bytes path [] ++ mid) mid path (proper (fronts path))
name_read input [] mid l i b d = absurd (omega (arith, l))
name_read input (p ∷ []) mid l i b d = alone_read input (source_name p ++ mid) p mid (source_is p mid (both_true (is_ident p) true i).0) b.0 b.1 d
name_read input (p ∷ q ∷ qs) mid l i b d =
    let e : path_bytes (p ∷ q ∷ qs) [] ++ mid ≡ 78 ∷ (source_names (p ∷ q ∷ qs) ++ 69 ∷ mid) =
    ap (λ z. (78 ∷ (nested_from (p ∷ q ∷ qs) z ++ codes "E")) ++ mid) (none_longest [] (p ∷ q ∷ qs)) ∙ ap (λ z. 78 ∷ z) (append_assoc (source_names (p ∷ q ∷ qs)) (codes "E") mid) in
    subst (λ z. NameRead input z mid (p ∷ q ∷ qs) (proper (fronts (p ∷ q ∷ qs)))) (sym e)
    (within_read input (source_names (p ∷ q ∷ qs) ++ 69 ∷ mid) p q mid qs (sources_are input (p ∷ q ∷ qs) (69 ∷ mid) i) (sym (drop-drop 1 2 input) ∙ ap (drop 1) (d ∙ e)))

-- ---- identifiers are texts
longer_starts : (w v bs : List ℕ) → starts w bs ≡ false → starts (w ++ v) bs ≡ false
longer_starts [] v bs h = absurd (cc)
longer_starts (x ∷ w) v [] h = refl
longer_starts (x ∷ w) v (b ∷ bs) h = by (x == b) (longer_starts w v bs) h
  where
    by : (z : Bool) → (starts w bs ≡ false → starts (w ++ v) bs ≡ false) → (z && starts w bs) ≡ false → (z && starts (w ++ v) bs) ≡ false
    by true more h = more h
    by false more h = refl

not_anonymous : (p : Ident) → starts (codes "_GLOBAL_") p ≡ false → is_anonymous p ≡ false
not_anonymous p h = rw (longer_starts (codes "_GLOBAL_") (codes ".N") p h, longer_starts (codes "_GLOBAL_") (codes "_N") p h, longer_starts (codes "_GLOBAL_") (codes "$N") p h) refl

no_space : (b : ℕ) → is_name_byte b ≡ true → (32 == b) ≡ false
no_space b h = by (32 == b) refl
  where
    by : (z : Bool) → (32 == b) ≡ z → z ≡ false
    by false e = refl
    by true e = absurd (no (subst (λ b. is_name_byte b ≡ true) (sym (eqb-true 32 b e)) h))
      where
        no : false ≡ true → ⊥
        no e = cc

ends_behind : (b : ℕ) (p : Ident) → (32 == b) ≡ false → list_all is_name_byte p ≡ true → is_byte 32 (last_of (Some b) p) ≡ false
ends_behind b [] h a = h
ends_behind b (c ∷ p) h a =
    let g = both_true (is_name_byte c) (list_all is_name_byte p) a in
    ends_behind c p (no_space c g.0) g.1

ident_ends : (p : Ident) → 1 ≤ length p → list_all is_name_byte p ≡ true → Ends p
ident_ends [] l a = absurd (omega (arith, l))
ident_ends (b ∷ p) l a = λ o. let g = both_true (is_name_byte b) (list_all is_name_byte p) a in ends_behind b p (no_space b g.0) g.1

ident_text : (p : Ident) → is_ident p ≡ true → IsText p
ident_text p h =
    let g = ident_parts p h in
    (not_anonymous p g.4, is_utf8-from_IsUtf8 p (chars_are_text p ((run_is_whole p).1 (identifier_is p g.2))), ident_ends p g.0 g.2)

all_text : (ps : Path) → list_all is_ident ps ≡ true → AllText ps
all_text [] h = tt
all_text (p ∷ ps) h = let g = both_true (is_ident p) (list_all is_ident ps) h in (ident_text p g.0, all_text ps g.1)

-- ---- what is asked of a declaration
path_parts : (ps : Path) → is_path ps ≡ true → (1 ≤ length ps) × (length ps ≤ 16) × (list_all is_ident ps ≡ true)
path_parts ps h =
    let a = both_true (nat_le 1 (length ps)) _ h in
    let b = both_true (nat_le (length ps) 16) _ a.1 in
    let c = both_true (list_all is_ident ps) _ b.1 in
    (leb-true 1 (length ps) a.0, leb-true (length ps) 16 b.0, c.0)

builtin_ends : (k : ℕ) → k < count → Ends (text_at builtins k)
builtin_ends k l o = not_true (is_byte 32 (last_of o (text_at builtins k))) (below_true count (λ k. not (is_byte 32 (last_of o (text_at builtins k)))) refl k l)
  where
    not_true : (z : Bool) → not z ≡ true → z ≡ false
    not_true true h = absurd (cc)
    not_true false h = refl

record FineType (n : ℕ) (t : PlainType) : Type 0 where
  fine : Fine t
  text : TypeText t
  small : size t ≤ 67 + modifiers t
  few : length (mentioned t) ≤ 16 + modifiers t

object_fine : (t : PlainType) → is_object t ≡ true → FineType 0 t
object_fine (builtin k) h = let l = ltb-true k count h in record { fine = l; text = builtin_ends k l; small = omega arith; few = omega arith }
object_fine (class ps) h =
    let g = path_parts ps h in
    record { fine = (g.0, g.2); text = all_text ps g.2; small = omega (arith, g.1); few = omega (arith, g.1, fronts_count [] ps) }
object_fine (of m t) h =
    let a = both_true (not (is_reference m)) (may_stand_on m t && is_object t) h in
    let b = both_true (may_stand_on m t) (is_object t) a.1 in
    let g = object_fine t b.1 in
    record { fine = g.fine; text = (not_true (is_reference m) a.0, g.text); small = omega (arith, g.small); few = omega (arith, g.few, length-append (mentioned t) (of m t ∷ [])) }
  where
    not_true : (z : Bool) → not z ≡ true → z ≡ false
    not_true true h = absurd (cc)
    not_true false h = refl

record FineParam (t : PlainType) : Type 0 where
  fine : Fine t
  text : ParamText t
  small : size t ≤ 122
  few : length (mentioned t) ≤ 32
  modifiers : modifiers t ≤ 16
  no_void : is_void t ≡ false

type_fine : (t : PlainType) → is_type t ≡ true → modifiers t ≤ 16 → is_void t ≡ false → FineParam t
type_fine (builtin k) h l v = let g = object_fine (builtin k) h in record { fine = g.fine; text = g.text; small = omega (arith, g.small); few = omega (arith, g.few); modifiers = l; no_void = v }
type_fine (class ps) h l v = let g = object_fine (class ps) h in record { fine = g.fine; text = g.text; small = omega (arith, g.small); few = omega (arith, g.few); modifiers = l; no_void = v }
type_fine (of m t) h l v =
    let g = object_fine t (both_true (may_stand_on m t) (is_object t) h).1 in
    record { fine = g.fine; text = g.text; small = omega (arith, g.small, l); few = omega (arith, g.few, l, length-append (mentioned t) (of m t ∷ [])); modifiers = l; no_void = v }

param_fine : (t : PlainType) → is_param t ≡ true → FineParam t
param_fine t h =
    let a = both_true (is_type t) (nat_le (modifiers t) 16 && not (is_void t)) h in
    let b = both_true (nat_le (modifiers t) 16) (not (is_void t)) a.1 in
    type_fine t a.0 (leb-true (modifiers t) 16 b.0) (not_true (is_void t) b.1)
  where
    not_true : (z : Bool) → not z ≡ true → z ≡ false
    not_true true h = absurd (cc)
    not_true false h = refl

record FineParams (ts : List PlainType) : Type 0 where
  fine : AllFine ts
  text : ParamsText ts
  small : SmallTypes ts
  few : FewModifiers ts

params_fine : (ts : List PlainType) → list_all is_param ts ≡ true → FineParams ts
params_fine [] h = record { fine = tt; text = tt; small = tt; few = tt }
params_fine (t ∷ ts) h =
    let a = both_true (is_param t) (list_all is_param ts) h in
    let g = param_fine t a.0 in
    let r = params_fine ts a.1 in
    record { fine = (g.fine, r.fine); text = (g.text, g.small, r.text); small = (g.few, r.small); few = (g.modifiers, r.few) }

not_void_only : (t : PlainType) (ts : List PlainType) → list_all is_param (t ∷ ts) ≡ true → is_void_only (t ∷ ts) ≡ false
not_void_only t [] h = (param_fine t (both_true (is_param t) true h).0).no_void
not_void_only t (u ∷ ts) h = refl

-- ---- the theorem
abbrev scope : PlainDecl → List PlainType
scope d = with_all (proper (fronts d.path)) []

scope_is : (path : Path) → 1 ≤ length path → with_all (proper (fronts path)) [] ≡ proper (fronts path)
scope_is [] l = absurd (omega (arith, l))
scope_is (q ∷ qs) l = scope_added q qs

proper_few : (xs : List PlainType) → length (proper xs) ≤ length xs
proper_few [] = omega arith
proper_few (x ∷ []) = omega arith
proper_few (x ∷ y ∷ xs) = omega (arith, proper_few (y ∷ xs))

closed_scope : (q : Ident) (qs : Path) → Closed (proper (fronts (q ∷ qs)))
closed_scope q qs =
    let g = last_part q qs in
    let e : proper (fronts (q ∷ qs)) ≡ fronts g.0 = ap (λ z. proper (fronts z)) (sym g.2) ∙ ap proper (fronts_more [] g.0 g.1) ∙ proper_more (fronts g.0) (class (g.0 ++ g.1 ∷ [])) in
    subst Closed (fronts_added [] g.0 [] (all_new (fronts g.0)) ∙ sym e) (closed_type (class g.0) [] closed_none).0

scope_closed : (path : Path) → 1 ≤ length path → Closed (proper (fronts path))
scope_closed [] l = absurd (omega (arith, l))
scope_closed (q ∷ qs) l = closed_scope q qs

-- with these types, of which there is one at least
types_read : (path : Path) (t : PlainType) (ts : List PlainType) (bs : List ℕ) → is_path path ≡ true → AllFine (t ∷ ts) → SmallTypes (t ∷ ts) → FewModifiers (t ∷ ts) → length (t ∷ ts) ≤ 64
    → bs ≡ 95 ∷ 90 ∷ (path_bytes path [] ++ types_bytes (t ∷ ts) (proper (fronts path)))
    → WholeRead bs path (t ∷ ts) (with_types (t ∷ ts) (proper (fronts path)))
types_read path t ts bs p f m w l e =
    let g = path_parts path p in
    let xs = proper (fronts path) in
    let mid = types_bytes (t ∷ ts) xs in
    let c = scope_closed path g.0 in
    let few : length xs + 32 * length (t ∷ ts) ≤ 2199 = omega (arith, l, proper_few (fronts path), fronts_count [] path, g.1) in
    let b = bounded (t ∷ ts) xs m few in
    let n = name_read bs path mid g.0 g.2 (types_begin (t ∷ ts) xs f) (ap (drop 2) e) in
    let h = type_spelled bs t xs (types_bytes ts (with_all (mentioned t) xs)) f.0 (types_begin ts (with_all (mentioned t) xs) f.1) b.0 c in
    let r = types_spelled bs ts (with_all (mentioned t) xs) f.1 b.1 (closed_type t xs c).0 in
    whole_read bs e n h r (omega (arith, few_steps bs h, w.0)) (steps_fit bs w.1 r)

void_types : List PlainType
void_types = builtin 0 ∷ []

-- what is read of a declaration's name: as many numbered components as entities, each of which shows its entity
pub record NameIsRead (d : PlainDecl) : Type 0 where
  pub types : List PlainType
  pub read : WholeRead (mangled d) d.path types (entities d)
  pub shown : outcome 96 default (mangled d) ≡ Shown (decl_text d)
  pub components : (k : ℕ) (q : PlainType) → slice_get (entities d) k ≡ Some q → outcome_of (printed (with_table read.table (mangled d)) default (component k)) ≡ Shown (type_text q)

pub decl_shown : (path : Path) (params : List PlainType) → is_decl (record { path = path; params = params }) ≡ true → NameIsRead (record { path = path; params = params })
unfolding mangled
decl_shown path [] h =
    let a = both_true (is_path path) _ h in
    let g = path_parts path a.0 in
    let e = scope_is path g.0 in
    let w = types_read path (builtin 0) [] (95 ∷ 90 ∷ (path_bytes path [] ++ codes "v")) a.0 (omega arith, tt) (omega arith, tt) (omega arith, tt) (omega arith) refl in
    record {
      types = builtin 0 ∷ [];
      read = subst (λ z. WholeRead (95 ∷ 90 ∷ (path_bytes path [] ++ codes "v")) path (builtin 0 ∷ []) z) (sym e) w;
      shown = name_shown (95 ∷ 90 ∷ (path_bytes path [] ++ codes "v")) path (builtin 0 ∷ []) (proper (fronts path)) w (all_text path g.2) g.1 (builtin_ends 0 (omega arith), omega arith, tt);
      components = component_shown (95 ∷ 90 ∷ (path_bytes path [] ++ codes "v")) path (builtin 0 ∷ []) (with_all (proper (fronts path)) []) (subst (λ z. WholeRead (95 ∷ 90 ∷ (path_bytes path [] ++ codes "v")) path (builtin 0 ∷ []) z) (sym e) w)
          (all_text path g.2) g.1 (builtin_ends 0 (omega arith), omega arith, tt) (good_entities path [] (all_text path g.2) g.1 tt);
    }
decl_shown path (t ∷ ts) h =
    let a = both_true (is_path path) (nat_le (length (t ∷ ts)) 64 && list_all is_param (t ∷ ts)) h in
    let b = both_true (nat_le (length (t ∷ ts)) 64) (list_all is_param (t ∷ ts)) a.1 in
    let g = path_parts path a.0 in
    let e = scope_is path g.0 in
    let f = params_fine (t ∷ ts) b.1 in
    let bs = 95 ∷ 90 ∷ (path_bytes path [] ++ types_bytes (t ∷ ts) (with_all (proper (fronts path)) [])) in
    let w = types_read path t ts bs a.0 f.fine f.small f.few (leb-true (length (t ∷ ts)) 64 b.0) (ap (λ z. 95 ∷ 90 ∷ (path_bytes path [] ++ types_bytes (t ∷ ts) z)) e) in
    record {
      types = t ∷ ts;
      read = subst (λ z. WholeRead bs path (t ∷ ts) (with_types (t ∷ ts) z)) (sym e) w;
      shown = name_shown bs path (t ∷ ts) (with_types (t ∷ ts) (proper (fronts path))) w (all_text path g.2) g.1 f.text ∙ ap (λ z. Shown (path_text path ++ text_behind z (t ∷ ts))) (not_void_only t ts b.1);
      components = component_shown bs path (t ∷ ts) (with_types (t ∷ ts) (with_all (proper (fronts path)) [])) (subst (λ z. WholeRead bs path (t ∷ ts) (with_types (t ∷ ts) z)) (sym e) w)
          (all_text path g.2) g.1 f.text (good_entities path (t ∷ ts) (all_text path g.2) g.1 f.text);
    }

-- ---- the laws
pub shown : AreShown
shown d h = (decl_shown d.path d.params h).shown

pub numbered : AreNumbered
numbered d h =
    let g = decl_shown d.path d.params h in
    let r = g.read in
    (r.tree, here (record { index = r.index; left = [] }) r.table, r.is, r.known.count, g.components)
