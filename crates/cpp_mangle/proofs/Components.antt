-- Each numbered component shows its entity.
use Rattle.std.specs.Prelude.{◌≤◌, ◌<◌, ◌*◌, Option, Some, None, slice_get}
use Rattle.std.proofs.Common.{◌≡◌, refl, sym, ap, subst, ◌∙◌, arith, ℕ, zero, suc, ◌+◌, false, List, [], ◌∷◌, ◌++◌, length, length-append, append-nil}
use Rattle.std.proofs.lemmas.Option.{slice_get_within}
use Rattle.demangle_core.specs.Core.{Core, Tag, N}
use Rattle.demangle_core.specs.Core as core
use Rattle.demangle_core.specs.Table.{size}
use Rattle.demangle_grammar.specs.Sound.{IsSoundFor}
use Rattle.demangle_grammar.specs.Tree.{reference}
use Rattle.demangle_grammar.specs.Expand.{end, node, expand}
use Rattle.demangle_printing.specs.Trees.{with_table, without_table}
use Rattle.demangle_printing.specs.State.{yes, last_of}
use Rattle.demangle_printing.specs.Act.{line, act}
use Rattle.demangle_printing.specs.Lines.{line_steps}
use Rattle.demangle_printing.specs.Print.{body, print}
use Rattle.demangle_printing.specs.Outcome.{outcome_of, printed, Shown}
use Rattle.demangle_printing.specs.Laws.{holds_param, told}
use Rattle.demangle_printing.proofs.Shared.{sharing_is_invisible}
use Rattle.cpp_mangle.specs.Declarations.{PlainType, Path, builtin, class, of, type_text, mentioned, with, with_all, with_types, place, unless_there, fronts_behind, fronts, proper}
use Rattle.cpp_mangle.proofs.Printed.{st, prints, Told, with_more, Typed, typed, shown, typed_text, type_levels, param_told, of_type, of_type_optional}
use Rattle.cpp_mangle.proofs.Tables.{expand_node, expand_end, later_same}
use Rattle.cpp_mangle.proofs.Names.{WholeRead}
use Rattle.cpp_mangle.proofs.Whole.{AllText, TypeText, ParamText, ParamsText, default, refers_back, handle_of_free, shown_tag_free, shown_free, param_is, type_levels_are, typed_is, shown_by, sound}
use Rattle.cpp_mangle.proofs.Whole as whole

abbrev pub component : ℕ → Core
component k = core.node Tag.MangledNameTopLevelType (reference N k) core.end

top_told : (n : ℕ) (t : Typed) (text : List ℕ) → Told [] None 1 text (prints n (line (shown t)) [] (st [] None None 1)) → Told [] None 0 text (prints (suc n) (line (node Tag.MangledNameTopLevelType (typed t end) end)) [] (st [] None None 0))
unfolding print body act line_steps
top_told n t text r = record { events = r.events ++ [] ++ [] ++ []; source = r.source; is = it; told = simp append-nil r.told }
  where
    it : prints (suc n) (line (node Tag.MangledNameTopLevelType (typed t end) end)) [] (st [] None None 0) ≡ yes (r.events ++ [] ++ [] ++ []) (st [] (last_of None text) r.source 0)
    it = rw (of_type_optional t, of_type t, r.is) refl

-- ---- the entities of a declaration are such types
abbrev pub Good : PlainType → Type 0
Good t = ParamText t × (whole.size t ≤ 126)

abbrev pub AllGood : List PlainType → Type 0
AllGood [] = Unit {0}
AllGood (t ∷ ts) = Good t × AllGood ts

good_get : (xs : List PlainType) (k : ℕ) (q : PlainType) → AllGood xs → slice_get xs k ≡ Some q → Good q
good_get [] k q g h = absurd (cc)
good_get (x ∷ xs) zero q g h = subst Good (ap (or_x x) h) g.0
  where
    or_x : PlainType → Option PlainType → PlainType
    or_x x None = x
    or_x x (Some y) = y
good_get (x ∷ xs) (suc k) q g h = good_get xs k q g.1 h

good_behind : (xs : List PlainType) (y : PlainType) → AllGood xs → Good y → AllGood (xs ++ y ∷ [])
good_behind [] y g h = (h, tt)
good_behind (x ∷ xs) y g h = (g.0, good_behind xs y g.1 h)

good_all : (ys xs : List PlainType) → AllGood ys → AllGood xs → AllGood (with_all ys xs)
good_all [] xs h g = g
good_all (y ∷ ys) xs h g = good_all ys (with y xs) h.1 (by (place y xs))
  where
    by : (o : Option ℕ) → AllGood (unless_there o y xs)
    by None = good_behind xs y g h.0
    by (Some k) = g

text_behind : (ps : Path) (q : List ℕ) → AllText ps → AllText (q ∷ []) → AllText (ps ++ q ∷ [])
text_behind [] q h g = g
text_behind (p ∷ ps) q h g = (h.0, text_behind ps q h.1 g)

good_fronts : (acc qs : Path) → AllText acc → AllText qs → 4 * (length acc + length qs) + 3 ≤ 126 → AllGood (fronts_behind acc qs)
good_fronts acc [] a h l = tt
good_fronts acc (q ∷ qs) a h l =
    let b = text_behind acc q a (h.0, tt) in
    ((b, omega (arith, l, length-append acc (q ∷ []))), good_fronts (acc ++ q ∷ []) qs b h.1 (omega (arith, l, length-append acc (q ∷ []))))

object_param : (t : PlainType) → TypeText t → ParamText t
object_param (builtin k) h = h
object_param (class ps) h = h
object_param (of m t) h = h.1

good_object : (t : PlainType) → TypeText t → whole.size t ≤ 126 → AllGood (mentioned t)
good_object (builtin k) h l = tt
good_object (class ps) h l = good_fronts [] ps tt h (omega (arith, l))
good_object (of m t) h l = good_behind (mentioned t) (of m t) (good_object t h.1 (omega (arith, l))) (h.1, l)

good_param : (t : PlainType) → ParamText t → whole.size t ≤ 126 → AllGood (mentioned t)
good_param (builtin k) h l = tt
good_param (class ps) h l = good_fronts [] ps tt h (omega (arith, l))
good_param (of m t) h l = good_behind (mentioned t) (of m t) (good_object t h (omega (arith, l))) (h, l)

good_types : (ts xs : List PlainType) → ParamsText ts → AllGood xs → AllGood (with_types ts xs)
good_types [] xs h g = g
good_types (t ∷ ts) xs h g = good_types ts (with_all (mentioned t) xs) h.2 (good_all (mentioned t) xs (good_param t h.0 (omega (arith, h.1))) g)

good_proper : (xs : List PlainType) → AllGood xs → AllGood (proper xs)
good_proper [] g = tt
good_proper (x ∷ []) g = tt
good_proper (x ∷ y ∷ xs) g = (g.0, good_proper (y ∷ xs) g.1)

pub good_entities : (path : Path) (ts : List PlainType) → AllText path → length path ≤ 16 → ParamsText ts → AllGood (with_types ts (with_all (proper (fronts path)) []))
good_entities path ts t l h = good_types ts (with_all (proper (fronts path)) []) h (good_all (proper (fronts path)) [] (good_proper (fronts path) (good_fronts [] path tt t (omega (arith, l)))) tt)

-- ---- a component alone
module _ (input : List ℕ) (path : Path) (ts es : List PlainType) (w : WholeRead input path ts es) (p : AllText path) (l : length path ≤ 16) (ps : ParamsText ts) (g : AllGood es) where
  component_sound : (k : ℕ) → k < length es → IsSoundFor input w.table (component k)
  unfolding size
  component_sound k h = record {
    entries = (sound input path ts es w p l ps).entries;
    handles = (refl, (refl, refl, tt), tt);
    refers = ((((rw (w.known.count) h), tt), tt), tt);
    places = ((tt, tt), tt);
    results = ((tt, ((tt, tt), tt)), tt);
  }

  pub component_shown : (k : ℕ) (q : PlainType) → slice_get es k ≡ Some q → outcome_of (printed (with_table w.table input) default (component k)) ≡ Shown (type_text q)
  component_shown k q e =
      let s = w.known.shows k q e w.table (later_same w.table) (refers_back input path ts es w p l ps) in
      let T = s.0 in
      let good = good_get es k q g e in
      let r = with_more (type_levels T) 126 (line (shown T)) [] (st [] None None 1) [] None 1 (typed_text T) (omega (arith, type_levels_are T, subst (λ z. whole.size z ≤ 126) (sym s.1) good.1)) (param_told T (param_is T (subst ParamText (sym s.1) good.0)) None None 1 []) in
      let m = top_told 126 T (typed_text T) r in
      let x : expand w.table input (component k) ≡ node Tag.MangledNameTopLevelType (typed T end) end =
      expand_node w.table input Tag.MangledNameTopLevelType (reference N k) core.end refl ∙ (λ i. node Tag.MangledNameTopLevelType (s.2 i) (expand_end w.table input i)) in
      let free : holds_param (node Tag.MangledNameTopLevelType (typed T end) end) ≡ false = rw (handle_of_free T, shown_tag_free T, shown_free T) refl in
      let same = sharing_is_invisible w.table input (component k) default (component_sound k (slice_get_within es k q e)) (ap holds_param x ∙ free) in
      shown_by (printed (with_table w.table input) default (component k)) m.events (type_text q) (same ∙ ap (λ z. told (printed without_table default z)) x ∙ ap told m.is) (m.told ∙ typed_is T ∙ ap type_text s.1)
