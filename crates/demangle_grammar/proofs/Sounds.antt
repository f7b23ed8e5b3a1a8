-- What is read in an input, from entries that are sound for it, is sound for it.
use Rattle.std.specs.Prelude.{◌≡◌, ℕ, ◌+◌, Bool, true, false, ◌&&◌, ◌||◌, not, List, [], ◌∷◌, ◌++◌, length, take, drop, nat_lt}
use Rattle.std.proofs.Common.{refl, subst, sym, ap, arith}
use Rattle.std.proofs.lemmas.List.{take-append-drop}
use Rattle.demangle_core.specs.Table.{Entry, count}
use Rattle.demangle_core.specs.Core.{Core, end, place, ◌⊕◌, N, U}
use Rattle.demangle_text.specs.Found.{Found, took, none}
use Rattle.demangle_text.specs.Word.{starts, missing_word}
use Rattle.demangle_text.specs.Kind.{Text, Bad}
use Rattle.demangle_grammar.specs.Rule.{Class, Row, Eat, Cond, Given, Leaf, Rule}
use Rattle.demangle_grammar.specs.Rows.{rule}
use Rattle.demangle_grammar.specs.Tree.{trees, Tree, core, component_of, template_entry, reshaped}
use Rattle.demangle_grammar.specs.Reading.{State, Yes, stepped, found, answer, go_on, find, byte_at, holds, refusal, marks, given, ahead_by, prefix_entry, is_nestable}
use Rattle.demangle_grammar.specs.Fits.{IsOne}
use Rattle.demangle_grammar.specs.Sound.{EachEntry, IsSomeRow}
use Rattle.demangle_grammar.proofs.Truth.{both_true, implied}
use Rattle.demangle_grammar.proofs.Numbers.{starts_so}
use Rattle.demangle_grammar.proofs.Holds.{Holds}
use Rattle.demangle_grammar.proofs.Derives.{Derives, digits_of}
use Rattle.demangle_grammar.proofs.Kept.{Keeps, keeps, steps, append-nil, behind', boxed', eats, of_entry}
use Rattle.demangle_grammar.proofs.Fit.{found_is, so_stands}
use Rattle.demangle_grammar.proofs.Fit as fit
use Rattle.demangle_grammar.proofs.Bridge.{plus_end}
use Rattle.demangle_grammar.proofs.Stands.{Stand, stand_front, goes_on}
use Rattle.demangle_grammar.proofs.Fields.{no_place, Fields, IsEntry, fields_both, fields_free, taken_fields, reference_fields, template_name_fields, template_entry_is, taken_some, reference_some}
use Rattle.demangle_grammar.proofs.Shapes.{Known, is_plain, is_full, is_none, is_turn, is_row, wide, some_if, tells, finds, makes, put_behind, reads_word, behind_leaf, leads, ends_row, rows_lead, turns_lead}
use Rattle.demangle_grammar.proofs.PartsKnown.{no, Placed, Alone, Is, plain_fields, full_some, wide_is, tells_is, behind_is, put_is, makes_is, word_is, marks_is}

-- ---- entries
each_last : (P : Core → Type 0) (es : List Entry) (x : Entry) → EachEntry P es → P x.tree → EachEntry P (es ++ x ∷ [])
each_last P [] x h i = (i, tt)
each_last P (y ∷ es) x h i = (h.0, each_last P es x h.1 i)

-- ---- what is found
module _ (input : List ℕ) where
  given_fields : (g : Given) → Fields input no_place (given g) × IsSomeRow (given g)
  given_fields Given.set = (tt, tt)
  given_fields Given.unset = (tt, tt)
  given_fields Given.missing = (((tt, tt, tt, (refl, tt, tt)), tt), tt)
  given_fields Given.nought = (tt, tt)
  given_fields Given.empty = (((tt, tt, tt, (refl, tt, tt)), tt), tt)

  Some : Core → Type 0
  Some c = Fields input no_place c × IsSomeRow c

  -- a field that is no place, behind the parts before it
  field_is : (p k : ℕ) (q : Known) (a f : Core) → is_plain q ≡ true → Is input p q a → Some f → Is input k Known.some (a ⊕ f)
  unfolding Some
  field_is p k q a f e h i = behind_is input true p k q a f e h i.0 (λ z. i.1)

  alone_is : (p : ℕ) (q : Known) (a : Core) (i j : ℕ) → Is input p q a → Alone input (is_none q) (a ⊕ place i j end)
  alone_is p Known.empty a i j h = (i, j, subst (λ z. z ⊕ place i j end ≡ place i j end) (sym h) refl)
  alone_is p Known.any a i j h = tt
  alone_is p Known.some a i j h = tt
  alone_is p (Known.one t filled) a i j h = tt
  alone_is p (Known.placed alone x tail) a i j h = tt
  alone_is p (Known.longer x tail) a i j h = tt

  -- a place, behind the parts before it
  place_is : (x : Eat) (p k : ℕ) (q : Known) (a f : Core) (bs : List ℕ) → is_plain q ≡ true → Is input p q a → Stand input p bs → p + length bs ≡ k → IsOne x p bs f
      → f ≡ place p (p + length bs) end → Is input k (Known.placed (is_none q) x []) (a ⊕ f)
  place_is x p k q a f bs e h s m o g =
      let it : Placed input x [] k p (p + length bs) = (bs, f, o, refl, omega (arith, m), subst (Stand input p) (sym (append-nil bs)) s) in
      subst (λ z. Is input k (Known.placed (is_none q) x []) (a ⊕ z)) (sym g) (
        fields_both input (Placed input x [] k) a (place p (p + length bs) end) (fields_free input (Placed input x [] k) a (plain_fields input p q a e h)) (it, tt),
        alone_is p q a p (p + length bs) h,
      )

  found_known : (x : Eat) (p k : ℕ) (q : Known) (a f : Core) (bs : List ℕ) → is_plain q ≡ true → Is input p q a → Stand input p bs → p + length bs ≡ k → IsOne x p bs f
      → Is input k (finds x q) (a ⊕ f)
  unfolding Some
  found_known (Eat.run c) p k q a f bs e h s m o = place_is (Eat.run c) p k q a f bs e h s m o o.2
  found_known Eat.identifier p k q a f bs e h s m o = place_is Eat.identifier p k q a f bs e h s m o o.2
  found_known (Eat.upto b) p k q a f bs e h s m o = place_is (Eat.upto b) p k q a f bs e h s m o o.1
  found_known (Eat.byte c) p k q a f bs e h s m o = behind_is input false p k q a f e h (subst (Fields input no_place) (sym o.3) tt) (λ z. no z)
  found_known Eat.digit p k q a f bs e h s m o = field_is p k q a f e h (subst Some (sym o.3) (tt, tt))
  found_known (Eat.numeral base signs) p k q a f bs e h s m o = field_is p k q a f e h (subst Some (sym o.2) (tt, tt))
  found_known (Eat.table t ws) p k q a f bs e h s m o = field_is p k q a f e h (subst Some (sym o.2) (tt, tt))
  found_known (Eat.give g) p k q a f bs e h s m o = field_is p k q a f e h (subst Some (sym o.1) (given_fields g))
  found_known Eat.here p k q a f bs e h s m o = field_is p k q a f e h (subst Some (sym o.1) (tt, tt))

  -- ---- a leaf
  -- Behind a reading the entries are sound, and the rest of the rule holds of something that is known of the parts.
  abbrev pub Ends : (Known → Bool) → State → Tree → Type 0
  Ends go m b = (q : Known) × (go q ≡ true) × Is input m.at q (core b) × EachEntry (IsEntry input) m.entries

  -- bytes at the front
  front : (n : ℕ) (s : State) → Stand input s.at s.rest → Stand input s.at (take n s.rest)
  front n s h = stand_front input s.at (take n s.rest) (drop n s.rest) (subst (Stand input s.at) (sym (take-append-drop n s.rest)) h)

  -- a byte of no class
  never_found : (go : Known → Bool) (s : State) (a : Tree) (bs : List ℕ)
      → Holds (Ends go) (found trees answer go_on (byte_at (Class.these []) bs) (λ n v. Yes (ahead_by n s) (Tree.cat a (Tree.leaf (take n s.rest) v))))
  never_found go s a [] = tt
  never_found go s a (b ∷ bs) = tt

  eat_is : (x : Eat) (s : State) (a : Tree) (q : Known) (go : Known → Bool) → (is_plain q && go (finds x q)) ≡ true → Stand input s.at s.rest → Is input s.at q (core a)
      → EachEntry (IsEntry input) s.entries → Holds (Ends go) (stepped (Leaf.eat x) s a)
  eat_is x s a q go e h i g = by (find x s.at s.rest) (found_is x s.at s.rest)
    where
      by : (r : Found Core) → fit.Is x s.at s.rest r → Holds (Ends go) (found trees answer go_on r (λ n v. Yes (ahead_by n s) (Tree.cat a (Tree.leaf (take n s.rest) v))))
      by (took n f) o =
          let es = both_true (is_plain q) (go (finds x q)) e in
          (finds x q, es.1, found_known x s.at (s.at + length (take n s.rest)) q (core a) f (take n s.rest) es.0 i (front n s h) refl o, g)
      by (none k) o = tt

  step_is : (l : Leaf) (s : State) (a : Tree) (q : Known) (go : Known → Bool) → behind_leaf l q go ≡ true → Stand input s.at s.rest → Is input s.at q (core a)
      → EachEntry (IsEntry input) s.entries → Holds (Ends go) (stepped l s a)
  step_is (Leaf.word w) s a q go e h i g =
      so_stands (Ends go) (starts w s.rest) (missing_word w s.rest) _ (λ z.
      let t : take (length w) s.rest ≡ w = starts_so w s.rest z in
      let k = s.at + length (take (length w) s.rest) in
      let b : Is input k (reads_word w q) (core a) = word_is input w s.at k q (core a) (subst (Stand input s.at) t (front (length w) s h)) (ap (λ v. s.at + length v) (sym t)) i in
      (reads_word w q, e, subst (Is input k (reads_word w q)) (sym (plus_end (core a))) b, g))
  step_is (Leaf.eat (Eat.byte (Class.these []))) s a q go e h i g = never_found go s a s.rest
  step_is (Leaf.eat x) s a q go e h i g = eat_is x s a q go e h i g
  step_is (Leaf.check Cond.never) s a q go e h i g = tt
  step_is (Leaf.check c) s a q go e h i g = so_stands (Ends go) (holds c s.rest (core a)) (refusal c) _ (λ z. (q, e, i, g))
  step_is (Leaf.make m) s a q go e h i g = let b = makes_is input m s.at q go (core a) e i in (b.0, b.1, b.2, g)
  step_is (Leaf.mark m) s a q go e h i g =
      let b = marks_is input s.at q go (core a) e i in
      let w = marks m s.rest in
      (Known.some, b.0, (reference_fields input w (count w s.entries), reference_some w (count w s.entries)), each_last (IsEntry input) s.entries (record { which = w; tree = core a }) g b.1)
  step_is Leaf.mark_first s a q go e h i g =
      let es = both_true (is_plain q) (go Known.some) e in
      let f = plain_fields input s.at q (core a) es.0 i in
      (Known.some, es.1, (template_name_fields input (count U s.entries) (core a) f, tt), each_last (IsEntry input) s.entries (record { which = U; tree = template_entry (core a) }) g (template_entry_is input (core a) f))
  step_is Leaf.refer s a q go e h i g =
      let k = component_of (core a) in
      so_stands (Ends go) (nat_lt k (count N s.entries)) Bad _ (λ z. (Known.some, e, (reference_fields input N k, reference_some N k), g))
  step_is Leaf.take_over s a q go e h i g =
      let es = both_true (is_plain q) (go Known.some) e in
      let x = prefix_entry (core a) s.entries in
      so_stands (Ends go) (is_nestable x) Text _ (λ z.
      (Known.some, es.1, (taken_fields input x (core a) s.entries g (of_entry (core a) s.entries) (plain_fields input s.at q (core a) es.0 i), taken_some x (core a)), g))
  step_is Leaf.no_prefix s a q go e h i g = tt

  -- ---- rules
  wide_wide : (q : Known) → wide (wide q) ≡ wide q
  wide_wide Known.empty = refl
  wide_wide Known.any = refl
  wide_wide Known.some = refl
  wide_wide (Known.one t filled) = refl
  wide_wide (Known.placed alone x tail) = refl
  wide_wide (Known.longer x tail) = refl

  wide_plain : (q : Known) → is_plain q ≡ true → is_plain (wide q) ≡ true
  wide_plain Known.empty e = refl
  wide_plain Known.any e = refl
  wide_plain Known.some e = refl
  wide_plain (Known.one t filled) e = refl
  wide_plain (Known.placed alone x tail) e = e
  wide_plain (Known.longer x tail) e = e

  -- of a row that was entered with no parts
  row_some : (z f : Bool) → (z || f) ≡ true → not z ≡ true → f ≡ true
  row_some true f e n = no n
  row_some false f e n = e

  turn_leads : (r : Row) → is_turn r ≡ true → leads (rule r) Known.some is_row ≡ true
  turn_leads r e = implied (is_turn r) (leads (rule r) Known.some is_row) (turns_lead r) e

  pub ends : {r : Rule} {s t : State} {a c : Tree} → Derives r s a t c → (q : Known) (go : Known → Bool) → leads r q go ≡ true → Stand input s.at s.rest → Is input s.at q (core a)
      → EachEntry (IsEntry input) s.entries → Ends go t c
  ends Derives.nothing q go e h i g = (q, e, i, g)
  ends (Derives.leaf {l = l} {k = k} {s = s} {m = m} {a = a} {b = b} d rest) q go e h i g =
      let step = subst (Holds (Ends (λ p. leads k p go))) d (step_is l s a q (λ p. leads k p go) e h i g) in
      let kept : Keeps s a m b = subst (Holds (Keeps s a)) d (steps l s a) in
      ends rest step.0 go step.1 (goes_on input kept h) step.2 step.3
  ends (Derives.call {r = r} {k = k} {s = s} {m = m} {a = a} {b = b} d rest) q go e h i g =
      let es = both_true (is_plain q) (leads k (some_if (not (is_turn r)) q) go) e in
      let row = ends d Known.empty (ends_row r) (rows_lead r) h refl g in
      let ps = both_true (is_plain row.0) (is_turn r || is_full row.0) row.1 in
      let b' : Is input m.at (some_if (not (is_turn r)) q) (core a ⊕ core b) =
      behind_is input (not (is_turn r)) s.at m.at q (core a) (core b) es.0 i (plain_fields input m.at row.0 (core b) ps.0 row.2)
      (λ z. full_some input m.at row.0 (core b) (row_some (is_turn r) (is_full row.0) ps.1 z) row.2) in
      ends rest (some_if (not (is_turn r)) q) go es.1 (goes_on input (keeps d) h) b' row.3
  ends (Derives.last_turn {r = r} {k = k} {s = s} {m = m} {a = a} {b = b} d n rest) q go e h i g =
      let es = both_true (is_row q && is_turn r) (leads k Known.some go) e in
      let fs = both_true (is_row q) (is_turn r) es.0 in
      let row = ends d Known.some is_row (turn_leads r fs.1) h (tells_is input s.at q Known.some (core a) fs.0 i) g in
      ends rest Known.some go es.1 (goes_on input (keeps d) h) (tells_is input m.at row.0 Known.some (core b) row.1 row.2) row.3
  ends (Derives.turn {r = r} {k = k} {s = s} {m = m} {a = a} {b = b} d rest) q go e h i g =
      let es = both_true (is_row q && is_turn r) (leads k Known.some go) e in
      let fs = both_true (is_row q) (is_turn r) es.0 in
      let row = ends d Known.some is_row (turn_leads r fs.1) h (tells_is input s.at q Known.some (core a) fs.0 i) g in
      ends rest Known.some go (λ j. fs.1 j && es.1 j) (goes_on input (keeps d) h) (tells_is input m.at row.0 Known.some (core b) row.1 row.2) row.3
  ends (Derives.no_more {x = x} {k = k} {s = s} {a = a} rest) q go e h i g =
      let ps = both_true (is_plain q) (leads x (wide q) (λ p. tells p (wide q)) && leads k (wide q) go) e in
      let es = both_true (leads x (wide q) (λ p. tells p (wide q))) (leads k (wide q) go) ps.1 in
      ends rest (wide q) go es.1 h (wide_is input s.at q (core a) ps.0 i) g
  ends (Derives.one_more {x = x} {k = k} {s = s} {m = m} {a = a} {b = b} d rest) q go e h i g =
      let ps = both_true (is_plain q) (leads x (wide q) (λ p. tells p (wide q)) && leads k (wide q) go) e in
      let es = both_true (leads x (wide q) (λ p. tells p (wide q))) (leads k (wide q) go) ps.1 in
      let one = ends d (wide q) (λ p. tells p (wide q)) es.0 h (wide_is input s.at q (core a) ps.0 i) g in
      let both : (leads x (wide (wide q)) (λ p. tells p (wide (wide q))) && leads k (wide (wide q)) go) ≡ true =
      subst (λ z. (leads x z (λ p. tells p z) && leads k z go) ≡ true) (sym (wide_wide q)) ps.1 in
      let again : leads (Rule.star x k) (wide q) go ≡ true = λ j. wide_plain q ps.0 j && both j in
      ends rest (wide q) go again (goes_on input (keeps d) h) (tells_is input m.at one.0 (wide q) (core b) one.1 one.2) one.3
  ends (Derives.first {x = x} {y = y} {k = k} d rest) q go e h i g =
      let es = both_true (leads x q (λ p. leads k p go)) (leads y q (λ p. leads k p go)) e in
      let one = ends d q (λ p. leads k p go) es.0 h i g in
      ends rest one.0 go one.1 (goes_on input (keeps d) h) one.2 one.3
  ends (Derives.second {x = x} {y = y} {k = k} d rest) q go e h i g =
      let es = both_true (leads x q (λ p. leads k p go)) (leads y q (λ p. leads k p go)) e in
      let one = ends d q (λ p. leads k p go) es.1 h i g in
      ends rest one.0 go one.1 (goes_on input (keeps d) h) one.2 one.3
  ends (Derives.committed rest) q go e h i g = ends rest q go e h i g
  ends (Derives.block {x = x} {k = k} {s = s} {m = m} {a = a} {b = b} {n = n} {v = v} z l d y rest) q go e h i g =
      let es = both_true (is_plain q) (leads x Known.empty is_row && leads k Known.some go) e in
      let fs = both_true (leads x Known.empty is_row) (leads k Known.some go) es.1 in
      let begun : Stand input (ahead_by n s).at (ahead_by n s).rest = goes_on input (behind' a (eats s n end (λ x. tt))) h in
      let one = ends d Known.empty is_row fs.0 (front v (ahead_by n s) begun) refl g in
      let ps = both_true (is_plain one.0) (is_full one.0) one.1 in
      let b' : Is input m.at Known.some ((core a ⊕ end) ⊕ core b) =
      subst (λ c. Is input m.at Known.some (c ⊕ core b)) (sym (plus_end (core a)))
      (behind_is input true s.at m.at q (core a) (core b) es.0 i (plain_fields input m.at one.0 (core b) ps.0 one.2) (λ c. full_some input m.at one.0 (core b) ps.1 one.2)) in
      ends rest Known.some go fs.1 (goes_on input (behind' (Tree.cat a (digits_of n s)) (boxed' {s = ahead_by n s} v y (keeps d))) begun) b' one.3
  ends (Derives.part {h = f} {x = x} {k = k} {s = s} {m = m} {a = a} {b = b} d rest) q go e h i g =
      let es = both_true (is_plain q) (leads x Known.empty (λ p. makes f p (λ p. is_plain p && leads k (put_behind q p) go))) e in
      let one = ends d Known.empty (λ p. makes f p (λ p. is_plain p && leads k (put_behind q p) go)) es.1 h refl g in
      let b' = makes_is input f m.at one.0 (λ p. is_plain p && leads k (put_behind q p) go) (core b) one.1 one.2 in
      let ps = both_true (is_plain b'.0) (leads k (put_behind q b'.0) go) b'.1 in
      ends rest (put_behind q b'.0) go ps.1 (goes_on input (keeps d) h) (put_is input s.at m.at q b'.0 (core a) (reshaped f (core b)) es.0 i ps.0 b'.2) one.3
  ends (Derives.no_trial rest) q go e h i g = ends rest q go e h i g
