-- The numbers of a clone's suffix, one after the other.
use Rattle.std.proofs.Common.{cond, ◌≡◌, ℕ, suc, ◌+◌, ◌-◌, ◌<◌, ◌≤◌, Bool, true, false, List, [], ◌∷◌, ◌++◌, length}
use Rattle.std.proofs.Common.{drop, map, codes, refl, ap, sym, ◌∙◌, subst, arith, ℤ, pos, Result, Ok, Err}
use Rattle.std.proofs.lemmas.List.{length-drop}
use Rattle.demangle_core.specs.Core.{Core, Tag, node, place, number, end, numbers as numbers_of, ◌⊕◌}
use Rattle.demangle_core.specs.Table.{Table}
use Rattle.demangle_text.specs.Kind.{Kind, Unread, ends}
use Rattle.demangle_text.specs.Found.{Found, took, none, and_rest}
use Rattle.demangle_text.specs.Number.{natural_at, natural_from}
use Rattle.demangle_text.specs.Spot.{Spot, skip}
use Rattle.demangle_text.specs.Word.{starts, word_at}
use Rattle.demangle_grammar.specs.Rule.{Row}
use Rattle.demangle_grammar.specs.Rows.{rule}
use Rattle.demangle_grammar.specs.Code.{joined, joined_to, Here, here, at, Found as read, Out, Yes, No, read_spot}
use Rattle.demangle_grammar.specs.Code.{read_leaf, all_of, cread}
use Rattle.demangle_leaf_rows.specs.DottedNumbers.{dotted_number, number_behind, number_turn, number_tree}
use Rattle.demangle_leaf_rows.proofs.Turns.{goes_on, stops, map-more}

-- what the list reads from `now` on, behind these numbers, it reads from `first` on
pub record NumbersSoFar (first now : Spot) (xs : List ℤ) : Type 0 where
  pub same : (table : Table)
      → all_of number_turn (here first table) [] ≡ all_of number_turn (here now table) (map number_tree xs)

ok_of : {X E : Type 0} → X → Result X E → X
ok_of d (Ok x) = x
ok_of d (Err e) = d

-- ---- a dot and a number take a byte
dot_takes : (z : Bool) (p q : Spot) (c : Kind) → starts (codes ".") p.left ≡ z
    → cond z (Ok (skip 1 p)) (Err c) ≡ Ok q → length q.left < length p.left
unfolding ok_of
dot_takes true p q c h e = by p.left h (sym (ap (λ s. s.left) (ap (ok_of q) e)))
  where
    by : (bs : List ℕ) → starts (codes ".") bs ≡ true → q.left ≡ drop 1 bs → length q.left < length bs
    by [] h e = absurd (cc)
    by (b ∷ bs) h e = let l = ap length e ∙ length-drop 1 (b ∷ bs) in omega (arith, l)
dot_takes false p q c h e = absurd (cc)

found_takes : (f : Found ℕ) (p q : Spot) (v : ℕ) → and_rest f p ≡ Ok (v, q) → length q.left ≤ length p.left
unfolding ok_of
found_takes (took n x) p q v e =
    let l : q.left ≡ drop n p.left = sym (ap (λ s. s.1.left) (ap (ok_of (v, q)) e)) in
    let k = ap length l ∙ length-drop n p.left in
    omega (arith, k)
found_takes (none c) p q v e = absurd (cc)

pub number_takes : (p q : Spot) (v : ℕ) → dotted_number p ≡ Ok (v, q) → length q.left < length p.left
unfolding dotted_number word_at natural_from
number_takes p q v = by (word_at (codes ".") p) (λ r e. dot_takes (starts (codes ".") p.left) p r _ refl e)
  where
    by : (a : Result Spot Kind) → ((r : Spot) → a ≡ Ok r → length r.left < length p.left)
        → number_behind a ≡ Ok (v, q) → length q.left < length p.left
    by (Ok r) shorter e = let k = found_takes (natural_at 10 r.left) r q v e in let l = shorter r refl in
        omega (arith, k, l)
    by (Err k) shorter e = absurd (cc)

-- ---- a dot and a number as a turn
turn_is : (s : Here) (acc : List Core) (v : ℕ) (q : Spot) → dotted_number s.spot ≡ Ok (v, q)
    → number_turn s acc ≡ Yes (at s q) (acc ++ number (pos v) end ∷ [])
unfolding dotted_number
turn_is s acc v q = by (word_at (codes ".") s.spot)
  where
    by : (a : Result Spot Kind) → number_behind a ≡ Ok (v, q)
        → read_spot a (λ p. read_leaf (natural_from 10 p) (λ v q. Yes (at s q) (acc ++ number (pos v) end ∷ [])))
        ≡ Yes (at s q) (acc ++ number (pos v) end ∷ [])
    by (Ok p) e = rw e refl
    by (Err k) e = absurd (cc)

turn_fails : (s : Here) (acc : List Core) (k : Kind) → dotted_number s.spot ≡ Err k → number_turn s acc ≡ No false k
unfolding dotted_number
turn_fails s acc k = by (word_at (codes ".") s.spot)
  where
    by : (a : Result Spot Kind) → number_behind a ≡ Err k
        → read_spot a (λ p. read_leaf (natural_from 10 p) (λ v q. Yes (at s q) (acc ++ number (pos v) end ∷ [])))
        ≡ No false k
    by (Ok p) e = rw e refl
    by (Err j) e = cc

turn_takes : (s m : Here) (acc b : List Core) → number_turn s acc ≡ Yes m b → length m.spot.left < length s.spot.left
turn_takes s m acc b e = by (dotted_number s.spot) refl
  where
    by : (a : Result (ℕ × Spot) Kind) → dotted_number s.spot ≡ a → length m.spot.left < length s.spot.left
    by (Ok x) h =
        let l = sym (turn_is s acc x.0 x.1 h) ∙ e in
        let k : at s x.1 ≡ m = cc in
        subst (λ n. length n.spot.left < length s.spot.left) k (number_takes s.spot x.1 x.0 h)
    by (Err k) h = let l = sym (turn_fails s acc k h) ∙ e in absurd (cc)

-- only the bytes tell that there is none
found_ends : (f : Found ℕ) (p : Spot) (k : Kind) → and_rest f p ≡ Err k → ends k ≡ false
found_ends (took n x) p k e = absurd (cc)
found_ends (none c) p k e = let l : Unread c ≡ k = cc in subst (λ z. ends z ≡ false) l refl

dot_ends : (z : Bool) (p : Spot) (c k : Kind) → ends c ≡ false → cond z (Ok (skip 1 p)) (Err c) ≡ Err k → ends k ≡ false
dot_ends true p c k h e = absurd (cc)
dot_ends false p c k h e = let l : c ≡ k = cc in subst (λ z. ends z ≡ false) l h

number_ends : (p : Spot) (k : Kind) → dotted_number p ≡ Err k → ends k ≡ false
unfolding dotted_number word_at natural_from
number_ends p k = by (word_at (codes ".") p) (λ j e. dot_ends (starts (codes ".") p.left) p _ j refl e)
  where
    by : (a : Result Spot Kind) → ((j : Kind) → a ≡ Err j → ends j ≡ false) → number_behind a ≡ Err k → ends k ≡ false
    by (Ok r) h e = found_ends (natural_at 10 r.left) r k e
    by (Err j) h e = let l : j ≡ k = cc in subst (λ z. ends z ≡ false) l (h j refl)

-- ---- the list
pub numbers_begin : (p : Spot) → NumbersSoFar p p []
numbers_begin p = record { same = λ table. refl }

pub numbers_go_on : (p q r : Spot) (xs ys : List ℤ) (v : ℕ) → NumbersSoFar p q xs → dotted_number q ≡ Ok (v, r)
    → ys ≡ xs ++ pos v ∷ [] → NumbersSoFar p r ys
numbers_go_on p q r xs ys v h e l = record {
  same = λ table.
      h.same table
      ∙ goes_on number_turn turn_takes (here q table) (here r table) (map number_tree xs)
      (map number_tree xs ++ number (pos v) end ∷ []) (turn_is (here q table) (map number_tree xs) v r e)
      ∙ ap (λ b. all_of number_turn (here r table) b)
      (sym (map-more number_tree xs (pos v)) ∙ ap (map number_tree) (sym l));
}

pub numbers_stop : (p q : Spot) (xs : List ℤ) (k : Kind) → NumbersSoFar p q xs → dotted_number q ≡ Err k
    → (table : Table) → all_of number_turn (here p table) [] ≡ Yes (here q table) (map number_tree xs)
numbers_stop p q xs k h e table = h.same table
    ∙ stops number_turn (here q table) (map number_tree xs) false k
    (turn_fails (here q table) (map number_tree xs) k e) (number_ends q k e)

joined-numbers : (xs : List ℤ) → joined (map number_tree xs) ≡ numbers_of xs
joined-numbers [] = refl
joined-numbers (x ∷ xs) = rest x xs
  where
    rest : (x : ℤ) (xs : List ℤ) → joined_to (number_tree x) (map number_tree xs) ≡ numbers_of (x ∷ xs)
    rest x [] = refl
    rest x (y ∷ ys) = ap (λ r. number x r) (rest y ys)

-- ---- the suffix
pub suffix_found : (levels n : ℕ) (c b : Bool) (p q r s : Spot) (i j : ℕ) (xs : List ℤ) → (n ≡ suc levels) × (c ≡ b)
    → word_at (codes ".") p ≡ Ok q
    → ((table : Table)
    → cread levels Row.clone_type_identifier c (here q table) []
    ≡ read (node Tag.CloneTypeIdentifier (place i j end) end) (here r table))
    → ((table : Table) → all_of number_turn (here r table) [] ≡ Yes (here s table) (map number_tree xs))
    → (table : Table)
    → cread n Row.clone_suffix b (here p table) []
    ≡ read (node Tag.CloneSuffix
    (node Tag.CloneTypeIdentifier (place i j end) (node Tag.Several (numbers_of xs) end)) end) (here s table)
unfolding cread rule
suffix_found levels n c b p q r s i j xs l e f g table = rw (l.0, ← l.1, e, f table, g table, joined-numbers xs) refl

pub ruleset numbers = (numbers_begin, numbers_go_on, numbers_stop, number_takes)
