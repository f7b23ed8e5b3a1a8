-- The numbers of a clone's suffix, one after the other.
use Rattle.std.proofs.Common.{cond, ◌≡◌, ℕ, ◌<◌, ◌≤◌, Bool, true, false, List, [], ◌∷◌, ◌++◌, length}
use Rattle.std.proofs.Common.{drop, map, codes, refl, ap, sym, ◌∙◌, subst, arith, pos, Result, Ok, Err}
use Rattle.std.proofs.lemmas.List.{length-drop}
use Rattle.demangle_core.specs.Core.{Core, Tag, node, number, end}
use Rattle.demangle_text.specs.Kind.{Kind, Unread, ends}
use Rattle.demangle_text.specs.Found.{Found, took, none, and_rest}
use Rattle.demangle_text.specs.Number.{natural_at, natural_from}
use Rattle.demangle_text.specs.Spot.{Spot, skip}
use Rattle.demangle_text.specs.Word.{starts, word_at}
use Rattle.demangle_grammar.specs.Code.{joined, Here, here, at, Yes, No, and_then, read_leaf, read_spot}
use Rattle.demangle_cells.specs.Reads.{ListsPart, spot_at}
use Rattle.demangle_cells.specs.View.{View, Holds, Grown, KeepsTrees, Waited, since, table}
use Rattle.demangle_cells.specs.declared.text.Text.{Text}
use Rattle.demangle_cells.proofs.Lists.{map_last}
use Rattle.demangle_cells.proofs.Waits.{gathered_table, since_more, since_self, waited_on, waited_self}
use Rattle.demangle_read_rows.specs.Lists.{dotted_number, number_behind, number_turn, numbers_at}
use Rattle.demangle_read_rows.proofs.Turns.{goes_on, stops}

ok_of : {X E : Type 0} → X → Result X E → X
ok_of d (Ok x) = x
ok_of d (Err e) = d

-- ---- a dot and a number take a byte
dot_takes : (z : Bool) (p q : Spot) (c : Kind) → starts (codes ".") p.left ≡ z
    → cond z (Ok (skip 1 p)) (Err c) ≡ Ok q → length q.left < length p.left
unfolding ok_of
dot_takes true p q c h e = by p.left h (sym (ap (λ s. s.left) (ap (ok_of q) e)))
  where
    by : (bs : List ℕ) → starts (codes ".") bs ≡ true → q.left ≡ drop 1 bs → length q.left < length bs
    by [] h e = absurd (cc)
    by (b ∷ bs) h e = let l = ap length e ∙ length-drop 1 (b ∷ bs) in omega (arith, l)
dot_takes false p q c h e = absurd (cc)

found_takes : (f : Found ℕ) (p q : Spot) (v : ℕ) → and_rest f p ≡ Ok (v, q) → length q.left ≤ length p.left
unfolding ok_of
found_takes (took n x) p q v e =
    let l : q.left ≡ drop n p.left = sym (ap (λ s. s.1.left) (ap (ok_of (v, q)) e)) in
    let k = ap length l ∙ length-drop n p.left in
    omega (arith, k)
found_takes (none c) p q v e = absurd (cc)

pub number_takes : (p q : Spot) (v : ℕ) → dotted_number p ≡ Ok (v, q) → length q.left < length p.left
unfolding dotted_number word_at natural_from
number_takes p q v = by (word_at (codes ".") p) (λ r e. dot_takes (starts (codes ".") p.left) p r _ refl e)
  where
    by : (a : Result Spot Kind) → ((r : Spot) → a ≡ Ok r → length r.left < length p.left)
        → number_behind a ≡ Ok (v, q) → length q.left < length p.left
    by (Ok r) shorter e = let k = found_takes (natural_at 10 r.left) r q v e in let l = shorter r refl in
        omega (arith, k, l)
    by (Err k) shorter e = absurd (cc)

-- ---- a dot and a number as a turn
turn_is : (s : Here) (acc : List Core) (v : ℕ) (q : Spot) → dotted_number s.spot ≡ Ok (v, q)
    → number_turn s acc ≡ Yes (at s q) (acc ++ number (pos v) end ∷ [])
unfolding dotted_number
turn_is s acc v q = by (word_at (codes ".") s.spot)
  where
    by : (a : Result Spot Kind) → number_behind a ≡ Ok (v, q)
        → read_spot a (λ p. read_leaf (natural_from 10 p) (λ v q. Yes (at s q) (acc ++ number (pos v) end ∷ [])))
        ≡ Yes (at s q) (acc ++ number (pos v) end ∷ [])
    by (Ok p) e = rw e refl
    by (Err k) e = absurd (cc)

turn_fails : (s : Here) (acc : List Core) (k : Kind) → dotted_number s.spot ≡ Err k → number_turn s acc ≡ No false k
unfolding dotted_number
turn_fails s acc k = by (word_at (codes ".") s.spot)
  where
    by : (a : Result Spot Kind) → number_behind a ≡ Err k
        → read_spot a (λ p. read_leaf (natural_from 10 p) (λ v q. Yes (at s q) (acc ++ number (pos v) end ∷ [])))
        ≡ No false k
    by (Ok p) e = rw e refl
    by (Err j) e = cc

turn_takes : (s m : Here) (acc b : List Core) → number_turn s acc ≡ Yes m b → length m.spot.left < length s.spot.left
turn_takes s m acc b e = by (dotted_number s.spot) refl
  where
    by : (a : Result (ℕ × Spot) Kind) → dotted_number s.spot ≡ a → length m.spot.left < length s.spot.left
    by (Ok x) h =
        let l = sym (turn_is s acc x.0 x.1 h) ∙ e in
        let k : at s x.1 ≡ m = cc in
        subst (λ n. length n.spot.left < length s.spot.left) k (number_takes s.spot x.1 x.0 h)
    by (Err k) h = let l = sym (turn_fails s acc k h) ∙ e in absurd (cc)

-- only the bytes tell that there is none
found_ends : (f : Found ℕ) (p : Spot) (k : Kind) → and_rest f p ≡ Err k → ends k ≡ false
found_ends (took n x) p k e = absurd (cc)
found_ends (none c) p k e = let l : Unread c ≡ k = cc in subst (λ z. ends z ≡ false) l refl

dot_ends : (z : Bool) (p : Spot) (c k : Kind) → ends c ≡ false → cond z (Ok (skip 1 p)) (Err c) ≡ Err k → ends k ≡ false
dot_ends true p c k h e = absurd (cc)
dot_ends false p c k h e = let l : c ≡ k = cc in subst (λ z. ends z ≡ false) l h

number_ends : (p : Spot) (k : Kind) → dotted_number p ≡ Err k → ends k ≡ false
unfolding dotted_number word_at natural_from
number_ends p k = by (word_at (codes ".") p) (λ j e. dot_ends (starts (codes ".") p.left) p _ j refl e)
  where
    by : (a : Result Spot Kind) → ((j : Kind) → a ≡ Err j → ends j ≡ false) → number_behind a ≡ Err k → ends k ≡ false
    by (Ok r) h e = found_ends (natural_at 10 r.left) r k e
    by (Err j) h e = let l : j ≡ k = cc in subst (λ z. ends z ≡ false) l (h j refl)

-- ---- the list
-- what the list reads from `stop` on, behind these numbers, it reads from `at` on
pub record NumbersSoFar (text : Text) (from stop : ℕ) (a b : View) : Type 0 where
  pub waited : Waited a b
  pub same : (F : ℕ → Core) → table F b ≡ table F a
  pub reads : (F : ℕ → Core) → Holds F b
      → numbers_at (map F (since a b)) (here (spot_at text stop) (table F b))
      ≡ numbers_at [] (here (spot_at text from) (table F a))

turned : (text : Text) (F : ℕ → Core) (stop next v : ℕ) (b : View) (acc : List Core)
    → dotted_number (spot_at text stop) ≡ Ok (v, spot_at text next)
    → numbers_at acc (here (spot_at text stop) (table F b))
    ≡ numbers_at (acc ++ number (pos v) end ∷ []) (here (spot_at text next) (table F b))
unfolding numbers_at
turned text F stop next v b acc e =
    ap (λ o. and_then o (λ m b. Yes m (node Tag.Several (joined b) end ∷ [])))
    (goes_on number_turn turn_takes (here (spot_at text stop) (table F b)) (here (spot_at text next) (table F b))
    acc (acc ++ number (pos v) end ∷ []) (turn_is (here (spot_at text stop) (table F b)) acc v (spot_at text next) e))

module _ (text : Text) (from : ℕ) (a : View) where
  pub numbers_begin : NumbersSoFar text from from a a
  numbers_begin = record {
    waited = waited_self a;
    same = λ F. refl;
    reads = λ F h. ap (λ l. numbers_at (map F l) (here (spot_at text from) (table F a))) (since_self a);
  }

  pub numbers_more : (stop next v i : ℕ) (b m d : View) → NumbersSoFar text from stop a b
      → dotted_number (spot_at text stop) ≡ Ok (v, spot_at text next) → Grown b m
      → ((F : ℕ → Core) → table F m ≡ table F b)
      → ((F : ℕ → Core) → Holds F m → F i ≡ number (pos v) end) → KeepsTrees m d → d.waiting ≡ m.waiting ++ i ∷ []
      → NumbersSoFar text from next a d
  numbers_more stop next v i b m d s e g t made k w = record {
    waited = waited_on a b m d i s.waited g k w;
    same = λ F. gathered_table F m d k ∙ (t F ∙ s.same F);
    reads = λ F h.
        let l : map F (since a d) ≡ map F (since a b) ++ number (pos v) end ∷ [] =
        ap (map F) (since_more a b m d i s.waited g w)
        ∙ (map_last F (since a b) i ∙ ap (λ x. map F (since a b) ++ x ∷ []) (made F (k.holds F h))) in
        let q : table F d ≡ table F b = gathered_table F m d k ∙ t F in
        ap (λ z. numbers_at z (here (spot_at text next) (table F d))) l
        ∙ (ap (λ z. numbers_at (map F (since a b) ++ number (pos v) end ∷ []) (here (spot_at text next) z)) q
        ∙ (sym (turned text F stop next v b (map F (since a b)) e) ∙ s.reads F (g.holds F (k.holds F h))));
  }

  pub numbers_end : (stop : ℕ) (b : View) (k : Kind) → NumbersSoFar text from stop a b
      → dotted_number (spot_at text stop) ≡ Err k → ListsPart text from (Ok stop) a b (λ s. numbers_at [] s)
  unfolding numbers_at
  numbers_end stop b k s e F h =
      sym (s.reads F h)
      ∙ ap (λ o. and_then o (λ m b. Yes m (node Tag.Several (joined b) end ∷ [])))
      (stops number_turn (here (spot_at text stop) (table F b)) (map F (since a b)) false k
      (turn_fails (here (spot_at text stop) (table F b)) (map F (since a b)) k e) (number_ends (spot_at text stop) k e))

-- the next number stands further on
pub number_further : (text : Text) (stop next v : ℕ) → dotted_number (spot_at text stop) ≡ Ok (v, spot_at text next)
    → stop < next
number_further text stop next v e =
    let h : length (drop next text.bytes.now) < length (drop stop text.bytes.now) =
    number_takes (spot_at text stop) (spot_at text next) v e in
    let k = length-drop stop text.bytes.now in
    let l = length-drop next text.bytes.now in
    omega (arith, h, k, l)

pub ruleset further = (number_further)
