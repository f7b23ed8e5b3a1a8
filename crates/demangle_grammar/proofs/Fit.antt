-- What is read fits.
use Rattle.std.specs.Prelude.{◌≡◌, ℕ, zero, suc, ◌+◌, ◌-◌, Bool, true, false, cond, not, List, [], ◌∷◌, ◌++◌, length, take, drop, nat_lt, ◌==◌, pos, ℤ}
use Rattle.std.proofs.Common.{refl, subst, sym, ap, ◌∙◌, arith, length-append, length-take}
use Rattle.std.proofs.Math.Seq.{drop-append_seam}
use Rattle.std.proofs.lemmas.List.{length-take-le}
use Rattle.std.proofs.lemmas.Bool.{ltb-true}
use Rattle.demangle_core.specs.Table.{count}
use Rattle.demangle_core.specs.Core.{Core, end, place, number, N}
use Rattle.demangle_grammar.specs.Rule.{Class, Eat, Leaf, Rule}
use Rattle.demangle_grammar.specs.Tree.{trees, Tree, nil, core, spell, components, component_of, How}
use Rattle.demangle_grammar.specs.Rows.{rule}
use Rattle.demangle_grammar.specs.Reading.{State, Answer, Yes, stepped, found, where_so, answer, go_on, find, holds, prefix_entry, is_nestable, is_in, run_at, identifier_at, run_found, byte_at, digit_at, ahead_by, numeral_at, worded, refusal, numbered}
use Rattle.demangle_grammar.proofs.Derives.{Derives, narrowed, digits_of}
use Rattle.demangle_grammar.specs.Fits.{AllOf, IsNumber, IsOne, Stands, past, only, Fits}
use Rattle.demangle_grammar.specs.Laws.{IsFit}
use Rattle.demangle_grammar.proofs.Holds.{Holds}
use Rattle.demangle_grammar.proofs.Kept.{Keeps, keeps, steps, append-nil, behind', over', boxed', eats}
use Rattle.demangle_grammar.proofs.Readings.{derived}
use Rattle.demangle_text.specs.Word.{starts}
use Rattle.demangle_text.specs.Number.{natural_at, number_at}
use Rattle.demangle_text.specs.Kind.{Cause, Text}
use Rattle.demangle_text.specs.Found.{Found, took, none, mapped}
use Rattle.demangle_text.specs.Bytes.{is_digit, span}
use Rattle.demangle_text.specs.Characters.{AreIdentifierChars, identifier_len}
use Rattle.demangle_text.proofs.Identifiers.{run_is_chars}
use Rattle.demangle_text.proofs.Runs.{run_inside}
use Rattle.demangle_grammar.proofs.Numbers.{span_all, NaturalAt, natural_fits, NumberAt, WordAt, word_fits, number_fits}
use Rattle.demangle_vocab.specs.WordTable.{table_at}

-- ---- what is found
abbrev pub Is : Eat → ℕ → List ℕ → Found Core → Type 0
Is x at bs (took n f) = IsOne x at (take n bs) f
Is x at bs (none k) = Unit {0}

run_is : (c : Class) (at : ℕ) (bs : List ℕ) → Is (Eat.run c) at bs (run_at c at bs)
run_is c at [] = tt
run_is c at (b ∷ bs) = by (span (is_in c) (b ∷ bs)) (span_all (is_in c) (b ∷ bs))
  where
    by : (n : ℕ) → AllOf (is_in c) (take n (b ∷ bs)) × (length (take n (b ∷ bs)) ≡ n) → Is (Eat.run c) at (b ∷ bs) (run_found at n)
    by zero h = tt
    by (suc n) h = (tt, h.0, ap (λ k. place at (at + k) end) (sym h.1))

identifier_is : (at : ℕ) (bs : List ℕ) → Is Eat.identifier at bs (identifier_at at bs)
identifier_is at [] = tt
identifier_is at (b ∷ bs) = by (identifier_len (b ∷ bs)) (run_is_chars (b ∷ bs)) (length-take-le (identifier_len (b ∷ bs)) (b ∷ bs) (run_inside (b ∷ bs)))
  where
    by : (n : ℕ) → AreIdentifierChars (take n (b ∷ bs)) → length (take n (b ∷ bs)) ≡ n → Is Eat.identifier at (b ∷ bs) (run_found at n)
    by zero h e = tt
    by (suc n) h e = (tt, h, ap (λ k. place at (at + k) end) (sym e))

plus_zero : (n : ℕ) → n ≡ n + 0
plus_zero n = omega arith

numeral_is : (base : ℕ) (signs : Bool) (at : ℕ) (bs : List ℕ) → Is (Eat.numeral base signs) at bs (numeral_at base signs bs)
numeral_is base signs at bs = by (number_at base signs bs) (number_fits base signs bs)
  where
    by : (r : Found ℤ) → NumberAt base signs bs r → Is (Eat.numeral base signs) at bs (mapped numbered r)
    by (took n v) h = (v, h.2, refl)
    by (none c) h = tt

word_is : (t : ℕ) (ws : List (List ℕ)) (at : ℕ) (bs : List ℕ) → Is (Eat.table t ws) at bs (mapped (worded t) (table_at ws bs))
word_is t ws at bs = by (table_at ws bs) (word_fits ws bs)
  where
    by : (r : Found ℕ) → WordAt ws bs r → Is (Eat.table t ws) at bs (mapped (worded t) r)
    by (took n k) h = (k, h.1, refl)
    by (none c) h = tt

byte_is : (c : Class) (at : ℕ) (bs : List ℕ) → Is (Eat.byte c) at bs (byte_at c bs)
byte_is c at [] = tt
byte_is c at (b ∷ bs) = by (is_in c b) refl
  where
    by : (z : Bool) → is_in c b ≡ z → Is (Eat.byte c) at (b ∷ bs) (cond z (took 1 end) (none Text))
    by true e = (b, e, refl, refl)
    by false e = tt

digit_is : (at : ℕ) (bs : List ℕ) → Is Eat.digit at bs (digit_at bs)
digit_is at [] = tt
digit_is at (b ∷ bs) = by (is_digit b) refl
  where
    by : (z : Bool) → is_digit b ≡ z → Is Eat.digit at (b ∷ bs) (cond z (took 1 (number (pos (b - 48)) end)) (none Text))
    by true e = (b, e, refl, refl)
    by false e = tt

pub found_is : (x : Eat) (at : ℕ) (bs : List ℕ) → Is x at bs (find x at bs)
found_is (Eat.run c) at bs = run_is c at bs
found_is Eat.identifier at bs = identifier_is at bs
found_is (Eat.upto b) at bs = let a = span_all (λ x. not (x == b)) bs in (a.0, ap (λ k. place at (at + k) end) (sym a.1))
found_is (Eat.byte c) at bs = byte_is c at bs
found_is Eat.digit at bs = digit_is at bs
found_is (Eat.numeral base signs) at bs = numeral_is base signs at bs
found_is (Eat.table t ws) at bs = word_is t ws at bs
found_is (Eat.give c) at bs = (refl, refl)
found_is Eat.here at bs = (refl, refl)

-- ---- a leaf
pub so_stands : (P : State → Tree → Type 0) (b : Bool) (k : Cause) (go : Unit {0} → Answer Tree) → (b ≡ true → Holds P (go tt)) → Holds P (where_so trees answer go_on b k go)
so_stands P true k go h = h refl
so_stands P false k go h = tt

stands : (l : Leaf) (s : State) (a : Tree) → Holds (λ m b. Stands l s a b) (stepped l s a)
stands (Leaf.word w) s a = so_stands _ (starts w s.rest) _ _ (λ e. refl)
stands (Leaf.eat x) s a = by (find x s.at s.rest) (found_is x s.at s.rest)
  where
    by : (f : Found Core) → Is x s.at s.rest f → Holds (λ m b. Stands (Leaf.eat x) s a b) (found trees answer go_on f (λ n v. Yes (ahead_by n s) (Tree.cat a (Tree.leaf (take n s.rest) v))))
    by (took n f) i = (take n s.rest, f, i, refl)
    by (none k) i = tt
stands (Leaf.check c) s a = so_stands _ (holds c s.rest (core a)) (refusal c) _ (λ e. (e, refl))
stands (Leaf.make m) s a = refl
stands (Leaf.mark m) s a = refl
stands Leaf.refer s a = so_stands _ (nat_lt (component_of (core a)) (count N s.entries)) _ _ (λ e. (ltb-true _ _ e, refl))
stands Leaf.take_over s a = so_stands _ (is_nestable (prefix_entry (core a) s.entries)) _ _ (λ e. (e, refl))
stands Leaf.no_prefix s a = tt
stands Leaf.mark_first s a = refl

-- ---- where a tree ends
record At (o : State) (a : Tree) (s : State) : Type 0 where
  rest : o.rest ≡ spell a ++ s.rest
  at : s.at ≡ o.at + length (spell a)
  entries : s.entries ≡ o.entries ++ components a

at_past : {o s : State} {a : Tree} → At o a s → s ≡ past o a
at_past {o} {s} {a} h =
    let r : s.rest ≡ drop (length (spell a)) o.rest = sym (ap (drop (length (spell a))) h.rest ∙ drop-append_seam (spell a) s.rest) in
    λ i. record { at = h.at i; rest = r i; entries = h.entries i }

goes : {o s m : State} {a b : Tree} → At o a s → Keeps s a m b → At o b m
goes {o} {s} {m} {a} {b} h k =
    let e : o.rest ≡ spell b ++ m.rest = h.rest ∙ k.spells in
    let x : length o.rest ≡ length (spell a) + length s.rest = ap length h.rest ∙ length-append (spell a) s.rest in
    let y : length o.rest ≡ length (spell b) + length m.rest = ap length e ∙ length-append (spell b) m.rest in
    record { rest = e; at = omega (arith, x, y, h.at, k.at); entries = k.entries o.entries h.entries }

start : (s : State) → At s nil s
start s = record { rest = refl; at = plus_zero s.at; entries = sym (append-nil s.entries) }

same_length : {o s m : State} {a b : Tree} → At o a s → At o b m → length m.rest ≡ length s.rest → length (spell b) ≡ length (spell a)
same_length {o} {s} {m} {a} {b} h i e =
    let x : length o.rest ≡ length (spell a) + length s.rest = ap length h.rest ∙ length-append (spell a) s.rest in
    let y : length o.rest ≡ length (spell b) + length m.rest = ap length i.rest ∙ length-append (spell b) m.rest in
    omega (arith, x, y, e)

-- the number of a block
block_number : (bs : List ℕ) (n v : ℕ) → natural_at 10 bs ≡ took n v → IsNumber 10 (take n bs) v
block_number bs n v e = let h : NaturalAt 10 bs (took n v) = subst (NaturalAt 10 bs) e (natural_fits 10 bs) in h.2

fit : {r : Rule} {o s t : State} {a c : Tree} → At o a s → Derives r s a t c → Fits o r a c
fit h Derives.nothing = Fits.nothing
fit h (Derives.leaf {l = l} {s = s} {a = a} {b = b} e d) =
    Fits.leaf (subst (λ z. Stands l z a b) (at_past h) (subst (Holds (λ m b. Stands l s a b)) e (stands l s a))) (fit (goes h (subst (Holds (Keeps s a)) e (steps l s a))) d)
fit h (Derives.call {r = r} {s = s} {a = a} {b = b} d k) =
    Fits.call (subst (λ z. Fits z (rule r) nil b) (at_past h) (fit (start s) d)) (fit (goes h (behind' a (keeps d))) k)
fit h (Derives.last_turn d e k) = let i = goes h (keeps d) in Fits.last_turn (fit h d) (same_length h i e) (fit i k)
fit h (Derives.turn d k) = Fits.turn (fit h d) (fit (goes h (keeps d)) k)
fit h (Derives.no_more k) = Fits.no_more (fit h k)
fit h (Derives.one_more d k) = Fits.one_more (fit h d) (fit (goes h (keeps d)) k)
fit h (Derives.first d k) = Fits.first (fit h d) (fit (goes h (keeps d)) k)
fit h (Derives.second d k) = Fits.second (fit h d) (fit (goes h (keeps d)) k)
fit h (Derives.committed k) = Fits.committed (fit h k)
fit {o = o} h (Derives.block {x = x} {s = s} {m = m} {a = a} {b = b} {n = n} {v = v} e l d z k) =
    let i = goes h (behind' a (eats s n end (λ x. tt))) in
    let j = goes i (behind' (Tree.cat a (digits_of n s)) (boxed' {s = ahead_by n s} v z (keeps d))) in
    let f : Fits (only v (past o (Tree.cat a (digits_of n s)))) x nil b = subst (λ y. Fits (only v y) x nil b) (at_past i) (fit (start (narrowed v (ahead_by n s))) d) in
    let q : length (take v (drop n s.rest)) ≡ length (spell b) + length m.rest = ap length (keeps d).spells ∙ length-append (spell b) m.rest in
    let none' : length m.rest ≡ 0 = ap length z in
    Fits.block (block_number s.rest n v e) f (omega (arith, q, none', l, length-take v (drop n s.rest))) (fit j k)
fit h (Derives.part {h = f} {x = x} {s = s} {a = a} {b = b} d k) =
    Fits.part (subst (λ z. Fits z x nil b) (at_past h) (fit (start s) d))
    (fit (goes h (behind' a (over' (How.shaped f) refl (λ e p. tt) (keeps d)))) k)
fit h (Derives.no_trial k) = Fits.no_trial (fit h k)

pub is_fit : IsFit
is_fit left r c s t tree e = fit (start s) (derived left r c s t tree e)
