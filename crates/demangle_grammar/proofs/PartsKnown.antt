-- What is known of parts, as said of their core: lemmas on each word of Shapes.antt.
use Rattle.std.specs.Prelude.{◌⊎◌, ◌≡◌, ℕ, ◌+◌, ◌≤◌, Bool, true, false, ◌&&◌, not, List, [], ◌∷◌, ◌++◌, length, ◌==◌, codes}
use Rattle.std.proofs.Common.{refl, subst, sym, arith, append_assoc, length-append, inl, inr}
use Rattle.std.proofs.lemmas.Bool.{eqb-true}
use Rattle.demangle_core.specs.Core.{Core, end, node, place, ◌⊕◌, Tag}
use Rattle.demangle_grammar.specs.Rule.{Class, Eat, Make}
use Rattle.demangle_grammar.specs.Tree.{data_member_of, longer_by, reshaped}
use Rattle.demangle_grammar.specs.Fits.{AllOf, IsOne}
use Rattle.demangle_grammar.specs.Sound.{bytes_of, AreOf, HasPlaces, HasResult, HasResults, IsSomeRow, is_substitutable, HasHandles}
use Rattle.demangle_grammar.proofs.Truth.{both_true, either}
use Rattle.demangle_grammar.proofs.Kept.{append-nil}
use Rattle.demangle_grammar.proofs.Stands.{Stand, stand_front, stand_both, stand_within, stand_bytes}
use Rattle.demangle_grammar.proofs.Fields.{Places, no_place, node_around, Fields, IsEntry, fields_both, fields_so, place_of, fields_places, fields_results, fields_handles, places_free, index_fields, data_member_fields, some_front, some_behind, index_some, data_member_some}
use Rattle.demangle_grammar.proofs.Shapes.{Known, is_plain, is_full, wide, some_if, tells, same_bytes, is_tail, holds_place, may_hold, is_signature, has_result, makes, reads_word, marks_one, put_behind}

not_so : (b : Bool) → not b ≡ true → b ≡ false
not_so true e = absurd (cc)
not_so false e = refl

pub no : {A : Type 0} → false ≡ true → A
no e = absurd (cc)

-- ---- the bytes of a place
same_is : (bs cs : List ℕ) → same_bytes bs cs ≡ true → bs ≡ cs
same_is [] [] e = refl
same_is (b ∷ bs) (c ∷ cs) e = let es = both_true (b == c) (same_bytes bs cs) e in λ i. eqb-true b c es.0 i ∷ same_is bs cs es.1 i
same_is [] (c ∷ cs) e = no e
same_is (b ∷ bs) [] e = no e

abbrev Tail : List ℕ → Type 0
Tail bs = (bs ≡ []) ⊎ ((bs ≡ codes "$S") ⊎ ((bs ≡ codes "$_") ⊎ (bs ≡ codes "$$")))

tail_is : (bs : List ℕ) → is_tail bs ≡ true → Tail bs
tail_is bs e =
    either _ _ e (λ p. inl (same_is bs [] p))
    (λ p. inr (either _ _ p (λ q. inl (same_is bs (codes "$S") q))
    (λ q. inr (either _ _ q (λ r. inl (same_is bs (codes "$_") r)) (λ r. inr (same_is bs (codes "$$") r))))))

-- what was found, and what is behind it, is what a place of the node holds
holds_it : (t : Tag) (x : Eat) (tail : List ℕ) → holds_place t x tail ≡ true → (at : ℕ) (bs : List ℕ) (f : Core) → IsOne x at bs f → AreOf t (bs ++ tail)
holds_it Tag.Identifier Eat.identifier [] e at bs f o = subst (AreOf Tag.Identifier) (sym (append-nil bs)) (o.0, o.1)
holds_it Tag.CloneTypeIdentifier (Eat.run Class.clone) [] e at bs f o = subst (AreOf Tag.CloneTypeIdentifier) (sym (append-nil bs)) (o.0, o.1)
holds_it Tag.ResourceName (Eat.run Class.resource) tail e at bs f o = (bs, tail, refl, o.0, o.1, tail_is tail e)
holds_it Tag.ExprPrimaryLiteral (Eat.upto b) [] e at bs f o =
    subst (AreOf Tag.ExprPrimaryLiteral) (sym (append-nil bs)) (subst (λ z. AllOf (λ x. not (x == z)) bs) (eqb-true b 69 e) o.0)
holds_it _ _ _ e at bs f o = no e

no_result : (t : Tag) → is_signature t ≡ false → (c : Core) → HasResult t c
no_result Tag.BareFunctionType e c = absurd (cc)
no_result _ e c = tt

a_result : (t u : Tag) (x : Core) → IsSomeRow x → HasResult t (node u x end)
a_result Tag.BareFunctionType u x h = h
a_result _ u x h = tt

module _ (input : List ℕ) where
  -- ---- places that stand alone
  -- a place of such bytes, and behind it these, up to an index
  abbrev pub Placed : Eat → List ℕ → ℕ → Places
  Placed x tail p i j = (bs : List ℕ) × (f : Core) × IsOne x i bs f × (i + length bs ≡ j) × (j + length tail ≡ p) × Stand input i (bs ++ tail)

  -- a place of such bytes and these
  abbrev pub Longer : Eat → List ℕ → Places
  Longer x tail i j = (bs : List ℕ) × (f : Core) × IsOne x i bs f × (i + length (bs ++ tail) ≡ j) × Stand input i (bs ++ tail)

  at_most : (i n j : ℕ) → i + n ≡ j → i ≤ j
  at_most i n j e = omega (arith, e)

  placed_of : (t : Tag) (x : Eat) (tail : List ℕ) (p : ℕ) → holds_place t x [] ≡ true → (i j : ℕ) → Placed x tail p i j → place_of input t i j
  placed_of t x tail p e i j h =
      let s : Stand input i h.0 = stand_front input i h.0 tail h.5 in
      let a : AreOf t h.0 = subst (AreOf t) (append-nil h.0) (holds_it t x [] e i h.0 h.1 h.2) in (
        at_most i (length h.0) j h.3,
        subst (λ k. k ≤ length input) h.3 (stand_within input i h.0 s),
        subst (λ k. AreOf t (bytes_of input i k)) h.3 (subst (AreOf t) (sym (stand_bytes input i h.0 s)) a),
      )

  longer_of : (t : Tag) (x : Eat) (tail : List ℕ) → holds_place t x tail ≡ true → (i j : ℕ) → Longer x tail i j → place_of input t i j
  longer_of t x tail e i j h = (
    at_most i (length (h.0 ++ tail)) j h.3,
    subst (λ k. k ≤ length input) h.3 (stand_within input i (h.0 ++ tail) h.4),
    subst (λ k. AreOf t (bytes_of input i k)) h.3 (subst (AreOf t) (sym (stand_bytes input i (h.0 ++ tail) h.4)) (holds_it t x tail e i h.0 h.1 h.2)),
  )

  placed_more : (x : Eat) (tail w : List ℕ) (p q : ℕ) → Stand input p w → p + length w ≡ q → (i j : ℕ) → Placed x tail p i j → Placed x (tail ++ w) q i j
  placed_more x tail w p q s e i j h =
      let n = length-append h.0 tail in
      let m : p ≡ i + length (h.0 ++ tail) = omega (arith, n, h.3, h.4) in (
        h.0,
        h.1,
        h.2,
        h.3,
        omega (arith, length-append tail w, h.4, e),
        subst (Stand input i) (append_assoc h.0 tail w) (stand_both input i (h.0 ++ tail) w h.5 (subst (λ k. Stand input k w) m s)),
      )

  placed_longer : (x : Eat) (tail : List ℕ) (p k : ℕ) → k ≡ length tail → (i j : ℕ) → Placed x tail p i j → Longer x tail i (j + k)
  placed_longer x tail p k e i j h = (h.0, h.1, h.2, omega (arith, e, h.3, length-append h.0 tail), h.5)

  -- ---- what is known of a core, where the reading is at an index
  abbrev pub Filled : Bool → Core → Type 0
  Filled true c = IsSomeRow c
  Filled false c = Unit {0}

  abbrev pub Alone : Bool → Core → Type 0
  Alone true c = (i : ℕ) × (j : ℕ) × (c ≡ place i j end)
  Alone false c = Unit {0}

  -- the fields of a node, which may be of a component's kind
  abbrev pub Holds : Tag → Core → Type 0
  Holds t c = HasPlaces input t c × HasResult t c × HasResults c × HasHandles c

  abbrev pub Is : ℕ → Known → Core → Type 0
  Is p Known.empty c = c ≡ end
  Is p Known.any c = Fields input no_place c
  Is p Known.some c = Fields input no_place c × IsSomeRow c
  Is p (Known.one t filled) c = (x : Core) × (c ≡ node t x end) × Holds t x × Filled filled x
  Is p (Known.placed alone x tail) c = Fields input (Placed x tail p) c × Alone alone c
  Is p (Known.longer x tail) c = Fields input (Longer x tail) c

  pub plain_fields : (p : ℕ) (q : Known) (c : Core) → is_plain q ≡ true → Is p q c → Fields input no_place c
  plain_fields p Known.empty c e h = subst (Fields input no_place) (sym h) tt
  plain_fields p Known.any c e h = h
  plain_fields p Known.some c e h = h.0
  plain_fields p (Known.one t filled) c e h =
      subst (Fields input no_place) (sym h.1) ((h.2.0, h.2.1, h.2.2, node_around t (not_so (is_substitutable t) e) h.0 h.2.3), tt)
  plain_fields p (Known.placed alone x tail) c e h = no e
  plain_fields p (Known.longer x tail) c e h = no e

  pub full_some : (p : ℕ) (q : Known) (c : Core) → is_full q ≡ true → Is p q c → IsSomeRow c
  full_some p Known.some c e h = h.1
  full_some p (Known.one t filled) c e h = subst IsSomeRow (sym h.1) tt
  full_some p Known.empty c e h = no e
  full_some p Known.any c e h = no e
  full_some p (Known.placed alone x tail) c e h = no e
  full_some p (Known.longer x tail) c e h = no e

  pub wide_is : (p : ℕ) (q : Known) (c : Core) → is_plain q ≡ true → Is p q c → Is p (wide q) c
  wide_is p Known.empty c e h = plain_fields p Known.empty c e h
  wide_is p Known.any c e h = h
  wide_is p Known.some c e h = h
  wide_is p (Known.one t filled) c e h = (plain_fields p (Known.one t filled) c e h, full_some p (Known.one t filled) c refl h)
  wide_is p (Known.placed alone x tail) c e h = no e
  wide_is p (Known.longer x tail) c e h = no e

  pub moved_is : (p k : ℕ) (q : Known) (c : Core) → is_plain q ≡ true → Is p q c → Is k q c
  moved_is p k Known.empty c e h = h
  moved_is p k Known.any c e h = h
  moved_is p k Known.some c e h = h
  moved_is p k (Known.one t filled) c e h = h
  moved_is p k (Known.placed alone x tail) c e h = no e
  moved_is p k (Known.longer x tail) c e h = no e

  pub tells_is : (p : ℕ) (q r : Known) (c : Core) → tells q r ≡ true → Is p q c → Is p r c
  tells_is p q Known.any c e h = plain_fields p q c e h
  tells_is p q Known.some c e h = let es = both_true (is_plain q) (is_full q) e in (plain_fields p q c es.0 h, full_some p q c es.1 h)
  tells_is p q Known.empty c e h = no e
  tells_is p q (Known.one t filled) c e h = no e
  tells_is p q (Known.placed alone x tail) c e h = no e
  tells_is p q (Known.longer x tail) c e h = no e

  -- ---- parts behind others
  pub behind_is : (z : Bool) (p k : ℕ) (q : Known) (a b : Core) → is_plain q ≡ true → Is p q a → Fields input no_place b → (z ≡ true → IsSomeRow b) → Is k (some_if z q) (a ⊕ b)
  behind_is true p k q a b e h i f = (fields_both input no_place a b (plain_fields p q a e h) i, some_behind a b (f refl))
  behind_is false p k Known.empty a b e h i f = fields_both input no_place a b (plain_fields p Known.empty a e h) i
  behind_is false p k Known.any a b e h i f = fields_both input no_place a b h i
  behind_is false p k Known.some a b e h i f = (fields_both input no_place a b h.0 i, some_front a b h.1)
  behind_is false p k (Known.one t filled) a b e h i f = (fields_both input no_place a b (plain_fields p (Known.one t filled) a e h) i, some_front a b (full_some p (Known.one t filled) a refl h))
  behind_is false p k (Known.placed alone x tail) a b e h i f = no e
  behind_is false p k (Known.longer x tail) a b e h i f = no e

  pub put_is : (p k : ℕ) (q r : Known) (a b : Core) → is_plain q ≡ true → Is p q a → is_plain r ≡ true → Is k r b → Is k (put_behind q r) (a ⊕ b)
  put_is p k Known.empty r a b e h g i = subst (λ z. Is k r (z ⊕ b)) (sym h) i
  put_is p k Known.any r a b e h g i = behind_is (is_full r) p k Known.any a b e h (plain_fields k r b g i) (λ z. full_some k r b z i)
  put_is p k Known.some r a b e h g i = behind_is (is_full r) p k Known.some a b e h (plain_fields k r b g i) (λ z. full_some k r b z i)
  put_is p k (Known.one t filled) r a b e h g i = behind_is (is_full r) p k (Known.one t filled) a b e h (plain_fields k r b g i) (λ z. full_some k r b z i)
  put_is p k (Known.placed alone x tail) r a b e h g i = no e
  put_is p k (Known.longer x tail) r a b e h g i = no e

  -- ---- what parts become
  node_places : (p : ℕ) (t : Tag) (q : Known) (c : Core) → may_hold t q ≡ true → Is p q c → HasPlaces input t c
  node_places p t (Known.placed alone x tail) c e h = fields_places input t c (fields_so input (Placed x tail p) (place_of input t) (placed_of t x tail p e) c h.0)
  node_places p t (Known.longer x tail) c e h = fields_places input t c (fields_so input (Longer x tail) (place_of input t) (longer_of t x tail e) c h)
  node_places p t Known.empty c e h = places_free input t c (plain_fields p Known.empty c refl h)
  node_places p t Known.any c e h = places_free input t c h
  node_places p t Known.some c e h = places_free input t c h.0
  node_places p t (Known.one u filled) c e h = places_free input t c (plain_fields p (Known.one u filled) c e h)

  node_handles : (p : ℕ) (t : Tag) (q : Known) (c : Core) → may_hold t q ≡ true → Is p q c → HasHandles c
  node_handles p t (Known.placed alone x tail) c e h = fields_handles input (Placed x tail p) c h.0
  node_handles p t (Known.longer x tail) c e h = fields_handles input (Longer x tail) c h
  node_handles p t Known.empty c e h = fields_handles input no_place c (plain_fields p Known.empty c e h)
  node_handles p t Known.any c e h = fields_handles input no_place c h
  node_handles p t Known.some c e h = fields_handles input no_place c h.0
  node_handles p t (Known.one u filled) c e h = fields_handles input no_place c (plain_fields p (Known.one u filled) c e h)

  node_result : (p : ℕ) (t : Tag) (q : Known) (c : Core) → has_result (is_signature t) q ≡ true → Is p q c → HasResult t c
  node_result p t q c e h = by (is_signature t) refl e
    where
      filled_one : (q : Known) → has_result true q ≡ true → Is p q c → HasResult t c
      filled_one (Known.one u true) e h = subst (HasResult t) (sym h.1) (a_result t u h.0 h.3)
      filled_one (Known.one u false) e h = no e
      filled_one Known.empty e h = no e
      filled_one Known.any e h = no e
      filled_one Known.some e h = no e
      filled_one (Known.placed alone x tail) e h = no e
      filled_one (Known.longer x tail) e h = no e

      by : (z : Bool) → is_signature t ≡ z → has_result z q ≡ true → HasResult t c
      by true s e = filled_one q e h
      by false s e = no_result t s c

  node_results : (p : ℕ) (q : Known) (c : Core) → Is p q c → HasResults c
  node_results p (Known.placed alone x tail) c h = fields_results input (Placed x tail p) c h.0
  node_results p (Known.longer x tail) c h = fields_results input (Longer x tail) c h
  node_results p Known.empty c h = fields_results input no_place c (plain_fields p Known.empty c refl h)
  node_results p Known.any c h = fields_results input no_place c h
  node_results p Known.some c h = fields_results input no_place c h.0
  node_results p (Known.one u filled) c h = subst HasResults (sym h.1) ((h.2.1, h.2.2), tt)

  node_filled : (p : ℕ) (q : Known) (c : Core) (z : Bool) → is_full q ≡ z → Is p q c → Filled z c
  node_filled p q c true e h = full_some p q c e h
  node_filled p q c false e h = tt

  data_member_is : (p : ℕ) (q : Known) (c : Core) → is_plain q ≡ true → Is p q c → Is p (wide q) (data_member_of c)
  data_member_is p Known.empty c e h = data_member_fields input c (plain_fields p Known.empty c refl h)
  data_member_is p Known.any c e h = data_member_fields input c h
  data_member_is p Known.some c e h = (data_member_fields input c h.0, data_member_some c h.1)
  data_member_is p (Known.one t filled) c e h =
      (data_member_fields input c (plain_fields p (Known.one t filled) c e h), data_member_some c (full_some p (Known.one t filled) c refl h))
  data_member_is p (Known.placed alone x tail) c e h = no e
  data_member_is p (Known.longer x tail) c e h = no e

  -- Some of what may be known behind it is, and of this the rest of the rule holds.
  abbrev pub Behind : ℕ → (Known → Bool) → Core → Type 0
  Behind p go c = (q : Known) × (go q ≡ true) × Is p q c

  longer_is : (k p : ℕ) (q : Known) (go : Known → Bool) (c : Core) → makes (Make.longer k) q go ≡ true → Is p q c → Behind p go (longer_by k c)
  longer_is k p (Known.placed true x tail) go c e h =
      let es = both_true (k == length tail) (go (Known.longer x tail)) e in
      let it : Fields input (Placed x tail p) (place h.1.0 h.1.1 end) = subst (Fields input (Placed x tail p)) h.1.2 h.0 in
      (Known.longer x tail, es.1, subst (λ z. Fields input (Longer x tail) (longer_by k z)) (sym h.1.2) (placed_longer x tail p k (eqb-true k (length tail) es.0) h.1.0 h.1.1 it.0, tt))
  longer_is k p (Known.placed false x tail) go c e h = no e
  longer_is k p (Known.longer x tail) go c e h = no e
  longer_is k p Known.empty go c e h = no e
  longer_is k p Known.any go c e h = no e
  longer_is k p Known.some go c e h = no e
  longer_is k p (Known.one t filled) go c e h = no e

  pub makes_is : (m : Make) (p : ℕ) (q : Known) (go : Known → Bool) (c : Core) → makes m q go ≡ true → Is p q c → Behind p go (reshaped m c)
  makes_is (Make.one t) p q go c e h =
      let es = both_true (may_hold t q) (has_result (is_signature t) q && go (Known.one t (is_full q))) e in
      let fs = both_true (has_result (is_signature t) q) (go (Known.one t (is_full q))) es.1 in
      (Known.one t (is_full q), fs.1, (c, refl, (node_places p t q c es.0 h, node_result p t q c fs.0 h, node_results p q c h, node_handles p t q c es.0 h), node_filled p q c (is_full q) refl h))
  makes_is Make.dropped p q go c e h = (Known.empty, e, refl)
  makes_is Make.index p q go c e h = (Known.some, e, (index_fields input c, index_some c))
  makes_is (Make.longer k) p q go c e h = longer_is k p q go c e h
  makes_is Make.data_member p q go c e h = let es = both_true (is_plain q) (go (wide q)) e in (wide q, es.1, data_member_is p q c es.0 h)

  -- ---- a word, a component
  pub word_is : (w : List ℕ) (p k : ℕ) (q : Known) (c : Core) → Stand input p w → p + length w ≡ k → Is p q c → Is k (reads_word w q) c
  word_is w p k (Known.placed alone x tail) c s e h = (fields_so input (Placed x tail p) (Placed x (tail ++ w) k) (placed_more x tail w p k s e) c h.0, h.1)
  word_is w p k (Known.longer x tail) c s e h = h
  word_is w p k Known.empty c s e h = h
  word_is w p k Known.any c s e h = h
  word_is w p k Known.some c s e h = h
  word_is w p k (Known.one t filled) c s e h = h

  pub marks_is : (p : ℕ) (q : Known) (go : Known → Bool) (c : Core) → marks_one q go ≡ true → Is p q c → (go Known.some ≡ true) × IsEntry input c
  marks_is p (Known.one t filled) go c e h =
      let es = both_true (is_substitutable t) (go Known.some) e in
      (es.1, subst (IsEntry input) (sym h.1) (es.0, h.2.0, h.2.1, h.2.2, h.2.3))
  marks_is p Known.empty go c e h = no e
  marks_is p Known.any go c e h = no e
  marks_is p Known.some go c e h = no e
  marks_is p (Known.placed alone x tail) go c e h = no e
  marks_is p (Known.longer x tail) go c e h = no e
