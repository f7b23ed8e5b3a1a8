-- Memos: what they claim stays true.
use Rattle.std.proofs.Common.{◌≡◌, ◌≢◌, ◌==◌, refl, ap, sym, ◌∙◌, subst, ℕ, zero, suc, ◌≤◌, ◌<◌, ◌+◌, ◌-◌, List, []}
use Rattle.std.proofs.Common.{◌∷◌, ◌++◌, Bool, true, false, not, drop}
use Rattle.std.proofs.Common.{length, take, map, reverse, arith, Some, None, slice_get, ◌⊎◌, inl, inr, Ok, Err}
use Rattle.std.proofs.Common.{Result, OnOk, OnErr}
use Rattle.std.proofs.Math.Logic.{∥∥₁_elim, ∥∥₁_map, ∥∥₁_map₂}
use Rattle.demangle_grammar.specs.Code.{here, Reply, Found, Refused, cread}
use Rattle.demangle_grammar.specs.Fits.{AllOf}
use Rattle.demangle_grammar.specs.Reading.{is_nestable}
use Rattle.demangle_grammar.specs.Rule.{Row}
use Rattle.demangle_core.specs.Table.{Table}
use Rattle.demangle_text.specs.Kind.{Kind, Deep, kind, ends}
use Rattle.demangle_text.specs.Spot.{Spot}
use Rattle.demangle_outline.specs.Outline.{Agree}
use Rattle.std.proofs.lemmas.List.{reverse-reverse}
use Rattle.demangle_core.specs.Core.{Core}
use Rattle.demangle_core.specs.Core as core
use Rattle.demangle_text.specs.declared.error.Error.{Error}
use Rattle.demangle_cells.specs.Entries.{ids_of}
use Rattle.demangle_cells.specs.Ledger.{IsChain, stamp_at, Stamps, Stamped, NotesOnce}
use Rattle.demangle_cells.specs.Memo.{IsKnownAs, IsKnown, IsMemo, Memory, IsAmong, Outlined, Sees, seen, spot_in}
use Rattle.demangle_cells.specs.Memo.{row_of}
use Rattle.demangle_cells.specs.Stored.{View, Holds, table, entry, Grown, KeepsTrees, IsMark, IsCut}
use Rattle.demangle_cells.specs.declared.entry.Entry as made
use Rattle.demangle_cells.specs.declared.entry.Mark as mark
use Rattle.demangle_cells.specs.declared.asked.Stamp as stamp
use Rattle.demangle_cells.specs.declared.asked.Known as known
use Rattle.demangle_cells.specs.declared.asked.Outcome as outcome
use Rattle.demangle_cells.specs.declared.asked.Outcome.TheVariants as of_outcome
use Rattle.demangle_cells.specs.declared.asked.Key as of_key
use Rattle.demangle_cells.specs.declared.text.Text.{Text}
use Rattle.demangle_cells.specs.declared.text.Part as part
use Rattle.demangle_cells.specs.Reads.{Answers, EndsRow, ReadsRow, ended}
use Rattle.demangle_cells.proofs.Lists.{take_all, append_none}
use Rattle.demangle_cells.proofs.Levels.{found_with_more, refused_kind}
use Rattle.demangle_outline.proofs.Levels.{more_levels}
use Rattle.demangle_outline.proofs.Sees.{same_ends, same_refusals}
use Rattle.demangle_cells.proofs.Outlines.{outlined_none, outlined_grown, outlined_kept, outlined_cut, outlined_once}
use Rattle.demangle_cells.proofs.Outlines.{outline_of, outline_chain, outline_seen}
use Rattle.demangle_cells.proofs.Sets.{reply_set}
use Rattle.demangle_cells.proofs.Grows.{cut_holds, grown_self}
use Rattle.demangle_cells.proofs.Stamps.{chain_on, chain_same, stamped_none, stamped_cut, stamped_grown, stamped_noted}
use Rattle.demangle_cells.proofs.Stamps.{stamped_more, chain_at, get_end, same_some, grown_length}

-- what is said of a list's items of which there are none
none_among : {A : Type 0} (x : A) (xs : List A) → xs ≡ [] → IsAmong x xs → ⊥
none_among x xs e h = no (subst (λ l. slice_get l h.0 ≡ Some x) e h.1)
  where
    no : None ≡ Some x → ⊥
    no e = grind (arith, e)

-- ---- what is known stays true of more trees, of longer logs
known_on : (bytes : List ℕ) (log more outs less : List stamp.Stamp) (a b : View) (x : known.Known) (o : outcome.Outcome)
    → ((F : ℕ → Core) → Holds F b → Holds F a) → IsKnownAs bytes log outs a x o
    → IsKnownAs bytes (log ++ more) (outs ++ less) b x o
known_on bytes log more outs less a b x (of_outcome.Found p behind) g h =
    (h.0, h.1, (chain_on log more _ _ h.2.0, chain_on log more _ _ h.2.1, λ l k F f. h.2.2 l k F (g F f)))
known_on bytes log more outs less a b x (of_outcome.Refused e) g h =
    (h.0, (chain_on outs less _ _ h.1.0, λ l k F f t w. h.1.1 l k F (g F f) t w))
known_on bytes log more outs less a b x (of_outcome.Ended stop) g h =
    (h.0, (chain_on outs less _ _ h.1.0, λ l k F f t w. h.1.1 l k F (g F f) t w))

known_of : (bytes : List ℕ) (log outs : List stamp.Stamp) (a b : View) (x : known.Known) (o : outcome.Outcome)
    → ((F : ℕ → Core) → Holds F b → Holds F a) → IsKnownAs bytes log outs a x o → IsKnownAs bytes log outs b x o
known_of bytes log outs a b x (of_outcome.Found p behind) g h =
    (h.0, h.1, (h.2.0, h.2.1, λ l k F f. h.2.2 l k F (g F f)))
known_of bytes log outs a b x (of_outcome.Refused e) g h = (h.0, (h.1.0, λ l k F f t w. h.1.1 l k F (g F f) t w))
known_of bytes log outs a b x (of_outcome.Ended stop) g h = (h.0, (h.1.0, λ l k F f t w. h.1.1 l k F (g F f) t w))

-- the same in a memo whose logs are no shorter
known_in : (a b : View) (m n : Memory) (more less : List stamp.Stamp) → ((F : ℕ → Core) → Holds F b → Holds F a)
    → n.components.log ≡ m.components.log ++ more → n.outlines.log ≡ m.outlines.log ++ less → n.known ≡ m.known
    → n.text ≡ m.text → ((x : known.Known) → IsAmong x m.known → IsKnown m a x) → (x : known.Known)
    → IsAmong x n.known → IsKnown n b x
known_in a b m n more less g l u f t h x w =
    subst (λ lo. IsKnownAs n.text lo n.outlines.log b x x.outcome) (sym l)
    (subst (λ lo. IsKnownAs n.text (m.components.log ++ more) lo b x x.outcome) (sym u)
    (subst (λ tx. IsKnownAs tx (m.components.log ++ more) (m.outlines.log ++ less) b x x.outcome) (sym t)
    (known_on m.text m.components.log more m.outlines.log less a b x x.outcome g
    (h x (subst (λ fs. IsAmong x fs) f w)))))

-- no longer
same_log : (a b : List stamp.Stamp) → b ≡ a → b ≡ a ++ []
same_log a b e = e ∙ sym (append_none a)

pub memo_none : (v : View) (m : Memory) → m.components.stamps ≡ [] → m.outlines.stamps ≡ [] → m.known ≡ []
    → ∥ IsMemo v m ∥₁
memo_none v m s o f = ∣ record {
  stamped = stamped_none m.components v.entries s;
  outlined = outlined_none v m.outlines o;
  known = λ x h. absurd (none_among x m.known f h);
} ∣₁

-- more trees, more components
pub memo_grown : (a b : View) (m : Memory) → Grown a b → ∥ IsMemo a m ∥₁ → ∥ IsMemo b m ∥₁
memo_grown a b m g h = ∥∥₁_map h (λ k. record {
  stamped = stamped_grown m.components a.entries b.entries k.stamped g.entries;
  outlined = outlined_grown a b m.outlines g k.outlined;
  known = λ x i. known_of m.text m.components.log m.outlines.log a b x x.outcome g.holds (k.known x i);
})

-- more trees, the same components
pub memo_kept : (a b : View) (m : Memory) → KeepsTrees a b → ∥ IsMemo a m ∥₁ → ∥ IsMemo b m ∥₁
memo_kept a b m g h = ∥∥₁_map h (λ k. record {
  stamped = subst (λ es. Stamped m.components es) (sym g.entries) k.stamped;
  outlined = outlined_kept a b m.outlines g k.outlined;
  known = λ x i. known_of m.text m.components.log m.outlines.log a b x x.outcome g.holds (k.known x i);
})

-- fewer components
pub memo_cut : (a b : View) (m n : Memory) (k : mark.Mark) → IsCut k a b → n.components.log ≡ m.components.log
    → n.components.stamps ≡ take k.entries m.components.stamps → n.outlines.log ≡ m.outlines.log
    → n.outlines.stamps ≡ take k.entries m.outlines.stamps → n.known ≡ m.known → n.text ≡ m.text → ∥ IsMemo a m ∥₁
    → ∥ IsMemo b n ∥₁
memo_cut a b m n k c l s o u f t h = ∥∥₁_map h (λ i. record {
  stamped =
      subst (λ es. Stamped n.components es) (sym c.entries)
      (stamped_cut m.components n.components a.entries k.entries l s i.stamped);
  outlined = outlined_cut a b m.outlines n.outlines k c o u i.outlined;
  known =
      known_in a b m n [] [] (λ F g. cut_holds F a b k c g) (same_log _ _ l) (same_log _ _ o) f t i.known;
})

-- another text, where nothing was found
pub memo_for : (v : View) (m n : Memory) → n.components ≡ m.components → n.outlines ≡ m.outlines → n.known ≡ m.known
    → (n.text ≡ m.text) ⊎ (m.known ≡ []) → ∥ IsMemo v m ∥₁ → ∥ IsMemo v n ∥₁
memo_for v m n l o f t h = ∥∥₁_map h (λ i. record {
  stamped = subst (λ c. Stamped c v.entries) (sym l) i.stamped;
  outlined = subst (λ c. Outlined v c) (sym o) i.outlined;
  known = λ y w. by y t i.known (subst (λ fs. IsAmong y fs) f w) w;
})
  where
    by : (y : known.Known) → (n.text ≡ m.text) ⊎ (m.known ≡ [])
        → ((x : known.Known) → IsAmong x m.known → IsKnown m v x) → IsAmong y m.known → IsAmong y n.known
        → IsKnown n v y
    by y (inl e) h w z =
        known_in v v m n [] [] (λ F g. g) (same_log _ _ (ap (λ c. c.log) l)) (same_log _ _ (ap (λ c. c.log) o)) f e h y z
    by y (inr e) h w z = absurd (none_among y m.known e w)

-- what became of a memo where a component got a new stamp, or none
pub memo_noting : (v : View) (m n : Memory) (r : Result (Unit {0}) Error) (e : made.Entry)
    → slice_get v.entries (length m.components.stamps) ≡ Some e
    → OnOk r (n.components.log ≡ m.components.log ++ record {
      before = stamp_at (length m.components.stamps) m.components.stamps;
      numbered = e.numbered;
      id = e.id;
    } ∷ [])
    → OnOk r (n.components.stamps ≡ m.components.stamps ++ (length m.components.log + 1) ∷ [])
    → OnErr r (n.components ≡ m.components) → n.outlines ≡ m.outlines → n.known ≡ m.known → n.text ≡ m.text
    → ∥ IsMemo v m ∥₁ → ∥ IsMemo v n ∥₁
memo_noting v m n (Ok u) e w l s k o f t h = ∥∥₁_map h (λ i. record {
  stamped = stamped_noted m.components n.components v.entries e i.stamped w l s;
  outlined = subst (λ c. Outlined v c) (sym o) i.outlined;
  known = known_in v v m n _ [] (λ F g. g) l (same_log _ _ (ap (λ c. c.log) o)) f t i.known;
})
memo_noting v m n (Err u) e w l s k o f t h = memo_for v m n k o f (inl t) h

-- and one where what a reading sees of a component got a stamp, or none
pub memo_seeing : (v : View) (m n : Memory) (r : Result (Unit {0}) Error) (e last : made.Entry)
    → slice_get v.entries (length m.outlines.stamps) ≡ Some e
    → ((F : ℕ → Core) → Holds F v → seen last ≡ ((entry F e).which, is_nestable (entry F e).tree))
    → OnOk r (NotesOnce m.outlines n.outlines last) → OnErr r (n.outlines ≡ m.outlines)
    → n.components ≡ m.components → n.known ≡ m.known → n.text ≡ m.text → ∥ IsMemo v m ∥₁ → ∥ IsMemo v n ∥₁
memo_seeing v m n (Ok u) e last w s o k c f t h = ∥∥₁_map h (λ i. record {
  stamped = subst (λ l. Stamped l v.entries) (sym c) i.stamped;
  outlined = outlined_once v m.outlines n.outlines e last w s o i.outlined;
  known = known_in v v m n [] o.more (λ F g. g) (same_log _ _ (ap (λ l. l.log) c)) o.log f t i.known;
})
memo_seeing v m n (Err u) e last w s o k c f t h = memo_for v m n c k f (inl t) h

-- what became of a memo where a component came with its stamp, or without one
pub memo_taking : (a b : View) (m n : Memory) (r : Result (Unit {0}) Error) (s : ℕ) (e : made.Entry) → Grown a b
    → b.entries ≡ a.entries ++ e ∷ [] → length m.components.stamps ≡ length a.entries → 0 < s
    → slice_get m.components.log (s - 1) ≡ Some (record {
      before = stamp_at (length a.entries) m.components.stamps;
      numbered = e.numbered;
      id = e.id;
    })
    → n.components.log ≡ m.components.log → OnOk r (n.components.stamps ≡ m.components.stamps ++ s ∷ [])
    → OnErr r (n.components.stamps ≡ m.components.stamps) → n.outlines ≡ m.outlines → n.known ≡ m.known
    → n.text ≡ m.text → ∥ IsMemo a m ∥₁ → ∥ IsMemo b n ∥₁
memo_taking a b m n r s e g t c p i l st k o f x h = ∥∥₁_map (memo_grown a b m g h) (λ j. record {
  stamped = by r st k j.stamped;
  outlined = subst (λ q. Outlined b q) (sym o) j.outlined;
  known =
      known_in b b m n [] [] (λ F q. q) (same_log _ _ l) (same_log _ _ (ap (λ q. q.log) o)) f x j.known;
})
  where
    made_of : ℕ → stamp.Stamp
    made_of j = record { before = stamp_at j m.components.stamps; numbered = e.numbered; id = e.id }

    next : slice_get b.entries (length m.components.stamps) ≡ Some e
    next = ap (slice_get b.entries) c ∙ (ap (λ es. slice_get es (length a.entries)) t ∙ get_end a.entries e)

    told : slice_get n.components.log (s - 1) ≡ Some (made_of (length m.components.stamps))
    told = ap (λ lo. slice_get lo (s - 1)) l ∙ (i ∙ ap (λ j. Some (made_of j)) (sym c))

    same : n.components.stamps ≡ m.components.stamps → n.components ≡ m.components
    same q = ap (λ lo. record { log = lo; stamps = n.components.stamps }) l
        ∙ ap (λ ss. record { log = m.components.log; stamps = ss }) q

    by : (r : Result (Unit {0}) Error) → OnOk r (n.components.stamps ≡ m.components.stamps ++ s ∷ [])
        → OnErr r (n.components.stamps ≡ m.components.stamps) → Stamped m.components b.entries
        → Stamped n.components b.entries
    by (Ok u) st k h = stamped_more m.components n.components b.entries s e [] h next p (same_log _ _ l) st told
    by (Err u) st k h = subst (λ q. Stamped q b.entries) (sym (same k)) h

-- ---- one more that was found
among_last : {A : Type 0} (x y : A) (xs : List A) (k : ℕ) → slice_get (xs ++ x ∷ []) k ≡ Some y
    → IsAmong y xs ⊎ (x ≡ y)
among_last x y [] zero h = inr (same_some x y h)
among_last x y [] (suc k) h = absurd (grind (arith, h))
among_last x y (z ∷ xs) zero h = inl (0, h)
among_last x y (z ∷ xs) (suc k) h = by (among_last x y xs k h)
  where
    by : IsAmong y xs ⊎ (x ≡ y) → IsAmong y (z ∷ xs) ⊎ (x ≡ y)
    by (inl w) = inl (suc w.0, w.1)
    by (inr e) = inr e

pub memo_put : (v : View) (m n : Memory) (x : known.Known) → n.components ≡ m.components → n.outlines ≡ m.outlines
    → n.text ≡ m.text → (n.known ≡ m.known) ⊎ (n.known ≡ m.known ++ x ∷ []) → ∥ IsKnown m v x ∥₁ → ∥ IsMemo v m ∥₁
    → ∥ IsMemo v n ∥₁
memo_put v m n x c o t f p h = ∥∥₁_map₂ p h (λ q i. record {
  stamped = subst (λ l. Stamped l v.entries) (sym c) i.stamped;
  outlined = subst (λ l. Outlined v l) (sym o) i.outlined;
  known = λ y w. same y (by y f q i.known w);
})
  where
    same : (y : known.Known) → IsKnown m v y → IsKnown n v y
    same y h =
        subst (λ l. IsKnownAs n.text l.log n.outlines.log v y y.outcome) (sym c)
        (subst (λ l. IsKnownAs n.text m.components.log l.log v y y.outcome) (sym o)
        (subst (λ tx. IsKnownAs tx m.components.log m.outlines.log v y y.outcome) (sym t) h))

    last : (y : known.Known) → IsKnown m v x → ((z : known.Known) → IsAmong z m.known → IsKnown m v z)
        → IsAmong y m.known ⊎ (x ≡ y) → IsKnown m v y
    last y p i (inl w) = i y w
    last y p i (inr e) = subst (IsKnown m v) e p

    by : (y : known.Known) → (n.known ≡ m.known) ⊎ (n.known ≡ m.known ++ x ∷ []) → IsKnown m v x
        → ((z : known.Known) → IsAmong z m.known → IsKnown m v z) → IsAmong y n.known → IsKnown m v y
    by y (inl e) p i w = i y (subst (λ fs. IsAmong y fs) e w)
    by y (inr e) p i w =
        let q : IsAmong y (m.known ++ x ∷ []) = subst (λ fs. IsAmong y fs) e w in
        last y p i (among_last x y m.known q.0 q.1)

pub part_kept : (a v : View) (m : Memory) (k : mark.Mark) (text : Text) (key : of_key.Key) (levels : ℕ)
    (p : part.Part) (behind : ℕ)
    → ∥ IsMemo v m ∥₁ → length m.components.stamps ≡ length v.entries → IsMark a k → Grown a v
    → ReadsRow (row_of key.row) levels key.conversion text key.at (Ok p) a v
    → m.text ≡ text.bytes.now → key.before ≡ stamp_at k.entries m.components.stamps
    → behind ≡ stamp_at (length v.entries) m.components.stamps
    → ∥ IsKnown m v (record { key = key; levels = levels; outcome = of_outcome.Found p behind }) ∥₁
unfolding table
part_kept a v m k text key levels p behind h c i g r t b d = ∥∥₁_map h (λ w. (
  reverse a.entries,
  reverse v.entries,
  (
    subst (λ s. IsChain m.components.log s (reverse a.entries)) (sym b)
        (chain_at m.components v.entries a.entries k.entries w.stamped i.entries
        (omega (arith, c, grown_length a.entries v.entries g.entries)) g.entries),
    subst (λ s. IsChain m.components.log s (reverse v.entries)) (sym d)
        (chain_at m.components v.entries v.entries (length v.entries) w.stamped refl (omega (arith, c))
        (take_all v.entries)),
    λ l le F f.
        found_with_more levels l (row_of key.row) key.conversion _ _ _ le (
        subst (λ tx. cread levels (row_of key.row) key.conversion
        (here (spot_in tx key.at) (map (entry F) (reverse (reverse a.entries)))) []
        ≡ Found (F p.id) (here (spot_in tx p.end) (map (entry F) (reverse (reverse v.entries))))) (sym t)
        (subst (λ es. cread levels (row_of key.row) key.conversion
        (here (spot_in text.bytes.now key.at) (map (entry F) es)) []
        ≡ Found (F p.id) (here (spot_in text.bytes.now p.end) (map (entry F) (reverse (reverse v.entries))))) (sym
        (reverse-reverse a.entries))
        (subst (λ es. cread levels (row_of key.row) key.conversion
        (here (spot_in text.bytes.now key.at) (map (entry F) a.entries)) []
        ≡ Found (F p.id) (here (spot_in text.bytes.now p.end) (map (entry F) es))) (sym (reverse-reverse v.entries))
        (r F f)))
        ),
  ),
))

-- a refusal tells of the bytes alone where it isn't want of memory
of_bytes : (F : ℕ → Core) (text : Text) (e : Error) (old new : View) (reply : Reply) → ends (kind e) ≡ false
    → Answers F text (Err e) old new reply → reply ≡ Refused (kind e)
of_bytes F text e old new reply u (inl m) = absurd (no (subst (λ x. ends (kind x) ≡ false) m u))
  where
    no : true ≡ false → ⊥
    no e = grind (arith, e)
of_bytes F text e old new reply u (inr d) = d.0

-- it is refused with any components that agree, and with more levels
refused_alike : (levels l : ℕ) (row : Row) (conv : Bool) (p : Spot) (t u : Table) (k : Kind) → levels ≤ l
    → ends k ≡ false → Agree p.left t u → cread levels row conv (here p t) [] ≡ Refused k
    → cread l row conv (here p u) [] ≡ Refused k
refused_alike levels l row conv p t u k le n w r =
    let q : cread levels row conv (here p u) [] ≡ Refused k = same_refusals levels row conv p t u k w r in
    more_levels levels l row conv (here p u) le (λ d. no (sym q ∙ d)) ∙ q
  where
    not_deep : (j : Kind) → ends j ≡ false → j ≢ Deep
    not_deep j e d = absurd (grind (arith, e, d))

    no : Refused k ≡ Refused Deep → ⊥
    no d = not_deep k n (refused_kind d)

-- it ends alike with any components that agree, and with more levels
ends_alike : (levels l : ℕ) (row : Row) (conv : Bool) (p q : Spot) (t u : Table) → levels ≤ l → Agree p.left t u
    → ended (cread levels row conv (here p t) []) ≡ Found core.end (here q [])
    → ended (cread l row conv (here p u) []) ≡ Found core.end (here q [])
ends_alike levels l row conv p q t u le w e = by (cread levels row conv (here p t) []) refl e
  where
    no : (k : Kind) → Refused k ≡ Found core.end (here q []) → ⊥
    no k d = grind (arith, d)

    by : (x : Reply) → cread levels row conv (here p t) [] ≡ x → ended x ≡ Found core.end (here q [])
        → ended (cread l row conv (here p u) []) ≡ Found core.end (here q [])
    by (Found x h) r d =
        let f = same_ends levels row conv p t u x h w r in
        ap ended (found_with_more levels l row conv (here p u) f.1 f.0 le f.2)
        ∙ (ap (λ s. Found core.end (here s [])) f.3 ∙ d)
    by (Refused k) r d = absurd (no k d)

-- the stamp of what a row sees of so many components
abbrev pub IsBefore : List ℕ → Stamps → (count stamp : ℕ) → Type 0
IsBefore left l count s = ((s ≡ 0) × AllOf (λ b. not (b == 83)) left) ⊎ (s ≡ stamp_at count l.stamps)

-- tables of which a reading sees what it saw of these components agree with them
agree_seen : (a v : View) (m : Memory) (k : mark.Mark) (left : List ℕ) (F : ℕ → Core) → Holds F v → (s : Table)
    → (x : IsMemo v m) → length m.outlines.stamps ≡ length v.entries → IsMark a k → Grown a v
    → Sees left (reverse (take k.entries x.outlined.shapes)) s → Agree left (table F a) s
agree_seen a v m k left F f s x c i g (inl w) = inl w
agree_seen a v m k left F f s x c i g (inr w) =
    inr (
    outline_of a v m.outlines k F f x.outlined c i g
    ∙ (ap (map seen) (sym (reverse-reverse (take k.entries x.outlined.shapes))) ∙ w)
    )

pub refusal_kept : (a v : View) (m : Memory) (k : mark.Mark) (text : Text) (key : of_key.Key) (levels : ℕ) (e : Error)
    → ∥ IsMemo v m ∥₁ → length m.outlines.stamps ≡ length v.entries → IsMark a k → Grown a v → ends (kind e) ≡ false
    → ReadsRow (row_of key.row) levels key.conversion text key.at (Err e) a v
    → m.text ≡ text.bytes.now → IsBefore (drop key.at text.bytes.now) m.outlines k.entries key.before
    → ∥ IsKnown m v (record { key = key; levels = levels; outcome = of_outcome.Refused e }) ∥₁
unfolding table
refusal_kept a v m k text key levels e h c i g u r t b = ∥∥₁_map h (λ x. by x b)
  where
    refused : (l : ℕ) → levels ≤ l → (F : ℕ → Core) → Holds F v → (s : Table)
        → Agree (drop key.at text.bytes.now) (table F a) s
        → cread l (row_of key.row) key.conversion (here (spot_in m.text key.at) s) [] ≡ Refused (kind e)
    refused l le F f s w =
        subst (λ tx. cread l (row_of key.row) key.conversion (here (spot_in tx key.at) s) [] ≡ Refused (kind e)) (sym t)
        (refused_alike levels l (row_of key.row) key.conversion (spot_in text.bytes.now key.at) (table F a) s
        (kind e) le u w (of_bytes F text e a v _ u (r F f)))

    agrees : (x : IsMemo v m) (F : ℕ → Core) → Holds F v → (s : Table)
        → Sees (drop key.at m.text) (reverse (take k.entries x.outlined.shapes)) s
        → Agree (drop key.at text.bytes.now) (table F a) s
    agrees x F f s w =
        agree_seen a v m k (drop key.at text.bytes.now) F f s x c i g
        (subst (λ tx. Sees (drop key.at tx) (reverse (take k.entries x.outlined.shapes)) s) t w)

    by : IsMemo v m → IsBefore (drop key.at text.bytes.now) m.outlines k.entries key.before
        → IsKnown m v (record { key = key; levels = levels; outcome = of_outcome.Refused e })
    by x (inl q) = ([], (q.0, λ l le F f s w. refused l le F f s (inl q.1)))
    by x (inr q) = (
      reverse (take k.entries x.outlined.shapes),
      (
        outline_chain a v m.outlines k key.before x.outlined c i g q,
        λ l le F f s w. refused l le F f s (agrees x F f s w),
      ),
    )

-- how many components there are
abbrev mark_of : View → mark.Mark
mark_of v =
    record {
      entries = length v.entries;
      numbered = length (ids_of true v.entries);
      others = length (ids_of false v.entries);
    }

marked : (v : View) → IsMark v (mark_of v)
marked v = record { entries = refl; numbered = refl; others = refl }

-- where it ends
pub end_kept : (v : View) (m : Memory) (text : Text) (key : of_key.Key) (levels stop : ℕ)
    → ∥ IsMemo v m ∥₁ → length m.outlines.stamps ≡ length v.entries
    → EndsRow (row_of key.row) levels key.conversion text key.at (Ok stop) v v
    → m.text ≡ text.bytes.now → IsBefore (drop key.at text.bytes.now) m.outlines (length v.entries) key.before
    → ∥ IsKnown m v (record { key = key; levels = levels; outcome = of_outcome.Ended stop }) ∥₁
unfolding table
end_kept v m text key levels stop h c r t b = ∥∥₁_map h (λ x. by x b)
  where
    ends : (l : ℕ) → levels ≤ l → (F : ℕ → Core) → Holds F v → (s : Table)
        → Agree (drop key.at text.bytes.now) (table F v) s
        → ended (cread l (row_of key.row) key.conversion (here (spot_in m.text key.at) s) [])
        ≡ Found core.end (here (spot_in m.text stop) [])
    ends l le F f s w =
        subst (λ tx. ended (cread l (row_of key.row) key.conversion (here (spot_in tx key.at) s) [])
        ≡ Found core.end (here (spot_in tx stop) [])) (sym t)
        (ends_alike levels l (row_of key.row) key.conversion (spot_in text.bytes.now key.at)
        (spot_in text.bytes.now stop) (table F v) s le w (r F f).0)

    agrees : (x : IsMemo v m) (F : ℕ → Core) → Holds F v → (s : Table)
        → Sees (drop key.at m.text) (reverse (take (length v.entries) x.outlined.shapes)) s
        → Agree (drop key.at text.bytes.now) (table F v) s
    agrees x F f s w =
        agree_seen v v m (mark_of v) (drop key.at text.bytes.now) F f s x c (marked v) (grown_self v)
        (subst (λ tx. Sees (drop key.at tx) (reverse (take (length v.entries) x.outlined.shapes)) s) t w)

    by : IsMemo v m → IsBefore (drop key.at text.bytes.now) m.outlines (length v.entries) key.before
        → IsKnown m v (record { key = key; levels = levels; outcome = of_outcome.Ended stop })
    by x (inl q) = ([], (q.0, λ l le F f s w. ends l le F f s (inl q.1)))
    by x (inr q) = (
      reverse (take (length v.entries) x.outlined.shapes),
      (
        outline_chain v v m.outlines (mark_of v) key.before x.outlined c (marked v) (grown_self v) q,
        λ l le F f s w. ends l le F f s (agrees x F f s w),
      ),
    )

-- ---- what is known is what would be read
-- the components before it are these
before_is : (a : View) (m : Memory) (s : ℕ) (es : List made.Entry) → IsMemo a m
    → length m.components.stamps ≡ length a.entries → s ≡ stamp_at (length a.entries) m.components.stamps
    → IsChain m.components.log s es → es ≡ reverse a.entries
before_is a m s es i c e h =
    chain_same m.components.log s es (reverse a.entries) h
    (subst (λ k. IsChain m.components.log k (reverse a.entries)) (sym e)
    (chain_at m.components a.entries a.entries (length a.entries) i.stamped refl (omega (arith, c))
    (take_all a.entries)))

found_reads : (a b : View) (m n : Memory) (text : List ℕ) (key : of_key.Key) (levels : ℕ) (x : known.Known)
    (p : part.Part) (end : ℕ)
    → IsMemo a m → IsMemo b n → length m.components.stamps ≡ length a.entries
    → length n.components.stamps ≡ length b.entries → n.components.log ≡ m.components.log → m.text ≡ text
    → key.before ≡ stamp_at (length a.entries) m.components.stamps
    → IsAmong x m.known → x.key ≡ key → x.levels ≤ levels → x.outcome ≡ of_outcome.Found p end → Grown a b
    → end ≡ stamp_at (length b.entries) n.components.stamps → (F : ℕ → Core) → Holds F b
    → cread levels (row_of key.row) key.conversion (here (spot_in text key.at) (table F a)) []
    ≡ Found (F p.id) (here (spot_in text p.end) (table F b))
unfolding table
found_reads a b m n text key levels x p end ia ib ca cb l t kb w e le o g d F f =
    let told : IsKnownAs m.text m.components.log m.outlines.log a x (of_outcome.Found p end) =
    subst (IsKnownAs m.text m.components.log m.outlines.log a x) o (ia.known x w) in
    let before : told.0 ≡ reverse a.entries =
    before_is a m x.key.before told.0 ia ca (ap (λ q. q.before) e ∙ kb) told.2.0 in
    let behind : told.1 ≡ reverse b.entries =
    before_is b n end told.1 ib cb d (subst (λ lo. IsChain lo end told.1) (sym l) told.2.1) in
    subst (λ q. cread levels (row_of q.row) q.conversion (here (spot_in text q.at) (map (entry F) a.entries)) []
    ≡ Found (F p.id) (here (spot_in text p.end) (map (entry F) b.entries))) e
    (subst (λ tx. cread levels (row_of x.key.row) x.key.conversion (here (spot_in tx x.key.at) (map
    (entry F) a.entries)) []
    ≡ Found (F p.id) (here (spot_in tx p.end) (map (entry F) b.entries))) t
    (subst (λ es. cread levels (row_of x.key.row) x.key.conversion (here (spot_in m.text x.key.at) (map
    (entry F) es)) []
    ≡ Found (F p.id) (here (spot_in m.text p.end) (map (entry F) b.entries)))
    (ap reverse before ∙ reverse-reverse a.entries)
    (subst (λ es. cread levels (row_of x.key.row) x.key.conversion (here (spot_in m.text x.key.at) (map (entry F)
    (reverse told.0))) []
    ≡ Found (F p.id) (here (spot_in m.text p.end) (map (entry F) es))) (ap reverse behind ∙ reverse-reverse b.entries)
    (told.2.2 levels le F (g.holds F f)))))

pub recalls : (a b : View) (m n : Memory) (text : List ℕ) (key : of_key.Key) (levels : ℕ) (x : known.Known)
    (p : part.Part) (end : ℕ)
    → ∥ IsMemo a m ∥₁ → ∥ IsMemo b n ∥₁ → length m.components.stamps ≡ length a.entries
    → length n.components.stamps ≡ length b.entries → n.components.log ≡ m.components.log → m.text ≡ text
    → key.before ≡ stamp_at (length a.entries) m.components.stamps
    → IsAmong x m.known → x.key ≡ key → x.levels ≤ levels → x.outcome ≡ of_outcome.Found p end → Grown a b
    → end ≡ stamp_at (length b.entries) n.components.stamps → (F : ℕ → Core) → Holds F b
    → cread levels (row_of key.row) key.conversion (here (spot_in text key.at) (table F a)) []
    ≡ Found (F p.id) (here (spot_in text p.end) (table F b))
recalls a b m n text key levels x p end ha hb ca cb l t kb w e le o g d F f =
    ∥∥₁_elim ha (reply_set _ _) (λ ia. ∥∥₁_elim hb (reply_set _ _) (λ ib.
    found_reads a b m n text key levels x p end ia ib ca cb l t kb w e le o g d F f))

-- a refusal, where a reading sees of these components what it saw of those before it
refusal_reads : (a : View) (m : Memory) (text : List ℕ) (key : of_key.Key) (levels : ℕ) (x : known.Known)
    (error : Error) → IsMemo a m → length m.outlines.stamps ≡ length a.entries → m.text ≡ text
    → IsBefore (drop key.at text) m.outlines (length a.entries) key.before → IsAmong x m.known → x.key ≡ key
    → x.levels ≤ levels → x.outcome ≡ of_outcome.Refused error → (F : ℕ → Core) → Holds F a
    → cread levels (row_of key.row) key.conversion (here (spot_in text key.at) (table F a)) [] ≡ Refused (kind error)
refusal_reads a m text key levels x error i c t b w e le o F f =
    subst (λ q. cread levels (row_of q.row) q.conversion (here (spot_in text q.at) (table F a)) []
    ≡ Refused (kind error)) e
    (subst (λ tx. cread levels (row_of x.key.row) x.key.conversion (here (spot_in tx x.key.at) (table F a)) []
    ≡ Refused (kind error)) t
    (told.1.1 levels le F f (table F a)
    (subst (λ tx. Sees (drop x.key.at tx) told.0 (table F a)) (sym t)
    (subst (λ q. Sees (drop q.at text) told.0 (table F a)) (sym e) (sees b)))))
  where
    told : IsKnownAs m.text m.components.log m.outlines.log a x (of_outcome.Refused error)
    told = subst (IsKnownAs m.text m.components.log m.outlines.log a x) o (i.known x w)

    sees : IsBefore (drop key.at text) m.outlines (length a.entries) key.before
        → Sees (drop key.at text) told.0 (table F a)
    sees (inl q) = inl q.1
    sees (inr q) = inr (outline_seen a m.outlines F f told.0 x.key.before i.outlined c
        (ap (λ y. y.before) e ∙ q) told.1.0)

pub refuses : (a : View) (m : Memory) (text : List ℕ) (key : of_key.Key) (levels : ℕ) (x : known.Known) (error : Error)
    → ∥ IsMemo a m ∥₁ → length m.outlines.stamps ≡ length a.entries → m.text ≡ text
    → IsBefore (drop key.at text) m.outlines (length a.entries) key.before → IsAmong x m.known → x.key ≡ key
    → x.levels ≤ levels → x.outcome ≡ of_outcome.Refused error → (F : ℕ → Core) → Holds F a
    → cread levels (row_of key.row) key.conversion (here (spot_in text key.at) (table F a)) [] ≡ Refused (kind error)
refuses a m text key levels x error h c t b w e le o F f =
    ∥∥₁_elim h (reply_set _ _) (λ i. refusal_reads a m text key levels x error i c t b w e le o F f)

-- where it ends
end_reads : (a : View) (m : Memory) (text : List ℕ) (key : of_key.Key) (levels : ℕ) (x : known.Known)
    (stop : ℕ) → IsMemo a m → length m.outlines.stamps ≡ length a.entries → m.text ≡ text
    → IsBefore (drop key.at text) m.outlines (length a.entries) key.before → IsAmong x m.known → x.key ≡ key
    → x.levels ≤ levels → x.outcome ≡ of_outcome.Ended stop → (F : ℕ → Core) → Holds F a
    → ended (cread levels (row_of key.row) key.conversion (here (spot_in text key.at) (table F a)) [])
    ≡ Found core.end (here (spot_in text stop) [])
end_reads a m text key levels x stop i c t b w e le o F f =
    subst (λ q. ended (cread levels (row_of q.row) q.conversion (here (spot_in text q.at) (table F a)) [])
    ≡ Found core.end (here (spot_in text stop) [])) e
    (subst (λ tx. ended (cread levels (row_of x.key.row) x.key.conversion (here (spot_in tx x.key.at) (table F a)) [])
    ≡ Found core.end (here (spot_in tx stop) [])) t
    (told.1.1 levels le F f (table F a)
    (subst (λ tx. Sees (drop x.key.at tx) told.0 (table F a)) (sym t)
    (subst (λ q. Sees (drop q.at text) told.0 (table F a)) (sym e) (sees b)))))
  where
    told : IsKnownAs m.text m.components.log m.outlines.log a x (of_outcome.Ended stop)
    told = subst (IsKnownAs m.text m.components.log m.outlines.log a x) o (i.known x w)

    sees : IsBefore (drop key.at text) m.outlines (length a.entries) key.before
        → Sees (drop key.at text) told.0 (table F a)
    sees (inl q) = inl q.1
    sees (inr q) = inr (outline_seen a m.outlines F f told.0 x.key.before i.outlined c
        (ap (λ y. y.before) e ∙ q) told.1.0)

pub ends_so : (a : View) (m : Memory) (text : List ℕ) (key : of_key.Key) (levels : ℕ) (x : known.Known) (stop : ℕ)
    → ∥ IsMemo a m ∥₁ → length m.outlines.stamps ≡ length a.entries → m.text ≡ text
    → IsBefore (drop key.at text) m.outlines (length a.entries) key.before → IsAmong x m.known → x.key ≡ key
    → x.levels ≤ levels → x.outcome ≡ of_outcome.Ended stop → (F : ℕ → Core) → Holds F a
    → ended (cread levels (row_of key.row) key.conversion (here (spot_in text key.at) (table F a)) [])
    ≡ Found core.end (here (spot_in text stop) [])
ends_so a m text key levels x stop h c t b w e le o F f =
    ∥∥₁_elim h (reply_set _ _) (λ i. end_reads a m text key levels x stop i c t b w e le o F f)

pub ruleset memos = (memo_none, memo_grown, memo_kept)
