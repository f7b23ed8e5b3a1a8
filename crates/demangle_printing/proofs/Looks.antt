-- A tree with its table and its input looks like its expanded tree.
use Rattle.std.specs.Prelude.{◌≡◌, ℕ, zero, suc, ◌+◌, ◌≤◌, ◌<◌, Bool, true, false, ◌||◌, List, [], ◌∷◌, ◌++◌}
use Rattle.std.specs.Prelude.{length, Option, Some, None, slice_get}
use Rattle.std.proofs.Common.{refl, ap, ◌∙◌, sym, subst, arith}
use Rattle.demangle_core.specs.Core.{Tag, Core, end, node, place, number, flag, chosen, ref, mark, Which, N, U}
use Rattle.demangle_core.specs.Core.{same_which}
use Rattle.demangle_core.specs.Table.{Entry, Table, count, count_if, listed, more_if, size, entry_at}
use Rattle.demangle_core.specs.Sound.{RefersTo, ReferBack}
use Rattle.demangle_grammar.specs.Sound.{is_substitutable, handle_of, HasHandles, IsComponent, EachEntry}
use Rattle.demangle_grammar.specs.Expand.{Expanded, in_place, expand_with, expand_upto, expand}
use Rattle.demangle_grammar.specs.Expand as expanded
use Rattle.demangle_core.proofs.Earlier.{Earlier, earlier}
use Rattle.demangle_printing.specs.Trees.{trees_of, may_refer, look_component, look_in, expanded_of}
use Rattle.demangle_printing.specs.Trees.{look_expanded}
use Rattle.demangle_printing.specs.Laws.{is_param, holds_param}
use Rattle.demangle_printing.proofs.Alike.{ListR, SeenR}
use Rattle.demangle_printing.proofs.AlikeLines.{left_false, right_false}

-- ---- how many entries there are
pub count_step : (v : Which) (es : List Entry) → count N es + count U es ≡ length es
    → count_if (same_which N v) (count N es) + count_if (same_which U v) (count U es) ≡ suc (length es)
count_step N es h = omega arith
count_step U es h = omega arith

pub counted : (es : List Entry) → count N es + count U es ≡ length es
counted [] = refl
counted (x ∷ es) = count_step x.which es (counted es)

pub all_entries : (t : Table) → length t ≡ size N t + size U t
unfolding size
all_entries t = sym (counted t)

pub some_or : Core → Option Core → Core
some_or d None = d
some_or d (Some z) = z

pub some_is : (x y : Core) → Some x ≡ Some y → x ≡ y
unfolding some_or
some_is x y e = ap (some_or x) e

pub each_by : (P : Core → Type 0) (b : Bool) (x y : Core) (xs : List Core) (k : ℕ) → P x →
    ((j : ℕ) → slice_get xs j ≡ Some y → P y)
    → slice_get (more_if b x xs) k ≡ Some y → P y
each_by P true x y xs zero p q e = subst P (some_is x y e) p
each_by P true x y xs (suc k) p q e = q k e
each_by P false x y xs k p q e = q k e

pub each_listed : (P : Core → Type 0) (w : Which) (t : Table) (k : ℕ) (y : Core) → EachEntry P t →
    slice_get (listed w t) k ≡ Some y → P y
each_listed P w [] k y p e = absurd (cc e)
each_listed P w (x ∷ t) k y p e =
    each_by P (same_which w x.which) x.tree y (listed w t) k p.0 (λ j f. each_listed P w t j y p.1 f) e

-- ---- references that end, by so many steps; they stand in handles, and no component stands in a tree
abbrev pub ShapedBy : (Which → ℕ → Type 0) → Core → Type 0
ShapedBy B end = Unit {0}
ShapedBy B (node t (ref w k m) n) = (may_refer t ≡ true) × B w k × ShapedBy B n
ShapedBy B (node t c n) = (is_substitutable t ≡ false) × ShapedBy B c × ShapedBy B n
ShapedBy B (place i j n) = ShapedBy B n
ShapedBy B (number v n) = ShapedBy B n
ShapedBy B (flag b n) = ShapedBy B n
ShapedBy B (chosen t k n) = ShapedBy B n
ShapedBy B (ref w k n) = B w k × ShapedBy B n
ShapedBy B (mark i n) = ShapedBy B n

-- a handle may refer
pub refer_of : (w : Which) (t : Tag) → t ≡ handle_of w → may_refer t ≡ true
refer_of N t e = ap may_refer e
refer_of U t e = ap may_refer e

pub shaped_row : (B : Which → ℕ → Type 0) (e : List Entry) → ((w : Which) (k : ℕ) → k < count w e → B w k) →
    (c : Core) → RefersTo e c
    → HasHandles c → ShapedBy B c
shaped_row B e f end r h = tt
shaped_row B e f (node t (ref w k m) n) r h = (refer_of w t h.0, f w k r.0.0, shaped_row B e f n r.1 h.2)
shaped_row B e f (node t c n) r h = (h.0, shaped_row B e f c r.0 h.1, shaped_row B e f n r.1 h.2)
shaped_row B e f (place i j n) r h = shaped_row B e f n r h
shaped_row B e f (number v n) r h = shaped_row B e f n r h
shaped_row B e f (flag b n) r h = shaped_row B e f n r h
shaped_row B e f (chosen t k n) r h = shaped_row B e f n r h
shaped_row B e f (ref w k n) r h = absurd h
shaped_row B e f (mark i n) r h = shaped_row B e f n r h

pub or_three : (a b c : Bool) → a ≡ false → b ≡ false → c ≡ false → (a || (b || c)) ≡ false
or_three a b c e f g = ap (λ z. z || (b || c)) e ∙ (ap (λ z. z || c) f ∙ g)

module _ (table : Table) (input : List ℕ) where
  -- a reference that is to a component, whose references end by so many steps
  abbrev pub Ref : ℕ → Which → ℕ → Type 0
  Ref zero w i = ⊥
  Ref (suc k) w i =
      (t : Tag) × (c : Core) × (entry_at w i table ≡ Some (node t c end)) × (is_substitutable t ≡ true)
      × ShapedBy (Ref k) c

  pub none_refers : (e : List Entry) (w : Which) (i : ℕ) → length e ≤ 0 → i < count w e → ⊥
  none_refers [] w i h l = omega (arith, l)
  none_refers (x ∷ e) w i h l = omega (arith, h)

  pub component_ref : (n : ℕ) (w : Which) (i : ℕ) (b : List Entry) (x : Core) → entry_at w i table ≡ Some x →
      IsComponent x → RefersTo b x
      → ((c : Core) → RefersTo b c → HasHandles c → ShapedBy (Ref n) c) → Ref (suc n) w i
  component_ref n w i b (node t (ref v k m) end) e h r f = (t, ref v k m, e, h.0, f (ref v k m) r.0 h.1)
  component_ref n w i b (node t c end) e h r f = (t, c, e, h.0, f c r.0 h.1)
  component_ref n w i b _ e h r f = absurd h

  pub bounded : (n : ℕ) (e r : List Entry) → table ≡ e ++ r → ReferBack [] table → EachEntry IsComponent table →
      length e ≤ n → (c : Core)
      → RefersTo e c → HasHandles c → ShapedBy (Ref n) c
  unfolding entry_at
  bounded zero e r p h q l c s a = shaped_row (Ref zero) e (λ w i m. none_refers e w i l m) c s a
  bounded (suc n) e r p h q l c s a =
      shaped_row (Ref (suc n)) e
      (λ w i m.
      let f : Earlier [] w i e r = earlier [] w i e r (subst (ReferBack []) p h) m in
      let there : entry_at w i table ≡ Some f.tree = ap (λ u. slice_get (listed w u) i) p ∙ f.there in
      component_ref n w i f.before f.tree there (each_listed IsComponent w table i f.tree q there) f.back
      (λ d u v. bounded n f.before f.rest (p ∙ f.parts) h q (omega (arith, f.shorter, l)) d u v)) c s a

  -- ---- what is expanded
  pub refs : ℕ → Which → ℕ → Expanded → Expanded
  refs zero w i n = expanded.nothing n
  refs (suc k) w i n = in_place (λ x. expand_upto k table input x) (entry_at w i table) n

  abbrev pub ex : ℕ → Core → Expanded
  ex k c = expand_with (refs k) input c

  pub upto_is : (k : ℕ) (c : Core) → expand_upto k table input c ≡ ex k c
  unfolding refs
  upto_is zero c = refl
  upto_is (suc k) c = refl

  -- what stands in place of a reference
  pub record Placed (k : ℕ) (w : Which) (i : ℕ) : Type 0 where
    pub more : ℕ
    pub fewer : k ≡ suc more
    pub kind : Tag
    pub content : Core
    pub entry : entry_at w i table ≡ Some (node kind content end)
    pub is_component : is_substitutable kind ≡ true
    pub shaped : ShapedBy (Ref more) content
    pub is : (n : Expanded) → refs k w i n ≡ expanded.node kind (ex more content) n

  pub placed : (k : ℕ) (w : Which) (i : ℕ) → Ref k w i → Placed k w i
  unfolding refs
  placed zero w i b = absurd b
  placed (suc k) w i b =
      record {
        more = k;
        fewer = refl;
        kind = b.0;
        content = b.1;
        entry = b.2;
        is_component = b.3;
        shaped = b.4;
        is = λ n. ap (λ o. in_place (λ z. expand_upto k table input z) o n) b.2
            ∙ ap (λ z. expanded.node b.0 z n) (upto_is k b.1);
      }

  -- a tree and its expanded tree, of which no template parameter is part
  abbrev pub R : Core → Expanded → Type 0
  R c e = (k : ℕ) × (k ≤ length table) × ShapedBy (Ref k) c × (e ≡ ex k c) × (holds_param e ≡ false)

  pub less : (k m n : ℕ) → k ≡ suc m → k ≤ n → m ≤ n
  less k m n e h = omega (arith, e, h)

  -- ---- one step deep
  pub holds_parts : (k : ℕ) (w : Which) (i : ℕ) (p : Placed k w i) (n : Expanded) → holds_param (refs k w i n) ≡ false
      → (is_param p.kind || (holds_param (ex p.more p.content) || holds_param n)) ≡ false
  holds_parts k w i p n e = ap holds_param (sym (p.is n)) ∙ e

  pub holds_alone : (k : ℕ) (w : Which) (i : ℕ) (p : Placed k w i) (n : Expanded) → holds_param (refs k w i n) ≡ false
      → holds_param (expanded.node p.kind (ex p.more p.content) expanded.end) ≡ false
  holds_alone k w i p n e =
      let h = holds_parts k w i p n e in
      or_three (is_param p.kind) (holds_param (ex p.more p.content)) false (left_false (is_param p.kind) _ h)
      (left_false (holds_param (ex p.more p.content)) _ (right_false (is_param p.kind) _ h)) refl

  pub holds_others : (k : ℕ) (w : Which) (i : ℕ) (p : Placed k w i) (n : Expanded) →
      holds_param (refs k w i n) ≡ false → holds_param n ≡ false
  holds_others k w i p n e =
      right_false (holds_param (ex p.more p.content)) _ (right_false (is_param p.kind) _ (holds_parts k w i p n e))

  pub in_list : (k : ℕ) (w : Which) (i : ℕ) (p : Placed k w i) (c : Core) (cs : List Core) (n : Expanded)
      → R c (expanded.node p.kind (ex p.more p.content) expanded.end) → ListR R cs (expanded_of n)
      → ListR R (c ∷ cs) (expanded_of (refs k w i n))
  in_list k w i p c cs n r l = subst (λ z. ListR R (c ∷ cs) (expanded_of z)) (sym (p.is n)) (r, l)

  pub list_related : (k : ℕ) → k ≤ length table → (c : Core) → ShapedBy (Ref k) c → holds_param (ex k c) ≡ false →
      ListR R (trees_of c) (expanded_of (ex k c))
  list_related k l end b p = tt
  list_related k l (node t (ref w i m) n) b p =
      let q = placed k w i b.1 in
      in_list k w i q (node t (ref w i m) end) (trees_of n) (ex k n)
      (k, l, (b.0, b.1, tt), sym (q.is expanded.end), holds_alone k w i q (ex k n) p)
      (list_related k l n b.2 (holds_others k w i q (ex k n) p))
  list_related k l (node t c n) b p = (
    (
      k,
      l,
      (b.0, b.1, tt),
      refl,
      or_three (is_param t) (holds_param (ex k c)) false (left_false (is_param t) _ p)
          (left_false (holds_param (ex k c)) _ (right_false (is_param t) _ p)) refl,
    ),
    list_related k l n b.2 (right_false (holds_param (ex k c)) _ (right_false (is_param t) _ p)),
  )
  list_related k l (place i j n) b p = ((k, l, tt, refl, refl), list_related k l n b p)
  list_related k l (number v n) b p = ((k, l, tt, refl, refl), list_related k l n b p)
  list_related k l (flag v n) b p = ((k, l, tt, refl, refl), list_related k l n b p)
  list_related k l (chosen t j n) b p = ((k, l, tt, refl, refl), list_related k l n b p)
  list_related k l (ref w i n) b p =
      let q = placed k w i b.0 in
      in_list k w i q (ref w i end) (trees_of n) (ex k n)
      (k, l, (b.0, tt), sym (q.is expanded.end), holds_alone k w i q (ex k n) p)
      (list_related k l n b.1 (holds_others k w i q (ex k n) p))
  list_related k l (mark i n) b p = list_related k l n b p

  pub component_related : (k : ℕ) → k ≤ length table → (w : Which) (i : ℕ) → Ref k w i → (n : Expanded) →
      holds_param (refs k w i n) ≡ false
      → SeenR R (look_component (entry_at w i table)) (look_expanded (refs k w i n))
  component_related k l w i b n p =
      let q = placed k w i b in
      let h = holds_parts k w i q n p in
      subst (λ z. SeenR R (look_component z) (look_expanded (refs k w i n))) (sym q.entry)
      (subst (λ z. SeenR R (look_component (Some (node q.kind q.content end))) (look_expanded z)) (sym (q.is n)) (
        refl,
        left_false (is_param q.kind) _ h,
        list_related q.more (less k q.more (length table) q.fewer l) q.content q.shaped
            (left_false (holds_param (ex q.more q.content)) _ (right_false (is_param q.kind) _ h)),
      ))

  pub seen_related : (k : ℕ) → k ≤ length table → (c : Core) → ShapedBy (Ref k) c → holds_param (ex k c) ≡ false →
      SeenR R (look_in table input c) (look_expanded (ex k c))
  seen_related k l end b p = tt
  seen_related k l (node t (ref w i m) n) b p = component_related k l w i b.1 (ex k n) p
  seen_related k l (node t c n) b p = (
    refl,
    left_false (is_param t) _ p,
    list_related k l c b.1
        (left_false (holds_param (ex k c)) _ (right_false (is_param t) _ p)),
  )
  seen_related k l (place i j n) b p = refl
  seen_related k l (number v n) b p = refl
  seen_related k l (flag v n) b p = refl
  seen_related k l (chosen t j n) b p = (refl, refl)
  seen_related k l (ref w i n) b p = component_related k l w i b.0 (ex k n) p
  seen_related k l (mark i n) b p = seen_related k l n b p

  pub look_related : (c : Core) (e : Expanded) → R c e → SeenR R (look_in table input c) (look_expanded e)
  look_related c e r =
      subst (λ z. SeenR R (look_in table input c) (look_expanded z)) (sym r.3)
      (seen_related r.0 r.1 c r.2 (subst (λ z. holds_param z ≡ false) r.3 r.4))
