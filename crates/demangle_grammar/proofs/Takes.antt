-- What takes a byte, by the rule, does.
use Rattle.std.specs.Prelude.{◌≡◌, ℕ, zero, suc, ◌≤◌, ◌<◌, Bool, true, false, cond, ◌&&◌, List, [], ◌∷◌, length, take, drop, ◌-◌, pos, ℤ}
use Rattle.std.proofs.Common.{refl, subst, sym, arith, length-drop}
use Rattle.demangle_core.specs.Core.{Core, end, number}
use Rattle.demangle_grammar.specs.Rule.{Row, Rule, Leaf, Eat, Cond}
use Rattle.demangle_grammar.specs.Tree.{trees, Tree}
use Rattle.demangle_grammar.specs.Rows.{rule}
use Rattle.demangle_grammar.specs.Reading.{State, Yes, stepped, found, where_so, answer, go_on, find, run_found, is_in, ahead_by, numeral_at, worded, numbered}
use Rattle.demangle_grammar.proofs.Truth.{both_true, either, implied}
use Rattle.demangle_grammar.proofs.Derives.{Derives}
use Rattle.demangle_grammar.proofs.Holds.{Holds}
use Rattle.demangle_grammar.proofs.Kept.{Keeps, keeps, steps}
use Rattle.demangle_grammar.proofs.Ranks.{takes, all_agree}
use Rattle.demangle_grammar.specs.First.{takes_row, takes_leaf, no_empty}
use Rattle.demangle_text.specs.Word.{starts, missing_word}
use Rattle.demangle_text.specs.Number.{natural_at, number_at}
use Rattle.demangle_text.specs.Kind.{Cause, Text}
use Rattle.demangle_text.specs.Found.{Found, took, none, mapped}
use Rattle.demangle_text.specs.Bytes.{is_digit}
use Rattle.demangle_grammar.proofs.Numbers.{NaturalAt, natural_fits, NumberAt, WordAt, word_fits, number_fits}
use Rattle.demangle_vocab.specs.WordTable.{table_at}

-- ---- what is found takes a byte
abbrev pub Takes : {A : Type 0} → List ℕ → Found A → Type 0
Takes bs (took n f) = length (drop n bs) < length bs
Takes bs (none k) = Unit {0}

fewer_left : (b : ℕ) (bs : List ℕ) (n : ℕ) → length (drop (suc n) (b ∷ bs)) < length (b ∷ bs)
fewer_left b bs n = omega (arith, length-drop n bs)

some_found : (b : ℕ) (bs : List ℕ) (t : Bool) (n : ℕ) (f : Core) (k : Cause) → Takes (b ∷ bs) (cond t (took (suc n) f) (none k))
some_found b bs true n f k = fewer_left b bs n
some_found b bs false n f k = tt

run_takes : (at n b : ℕ) (bs : List ℕ) → Takes (b ∷ bs) (run_found at n)
run_takes at zero b bs = tt
run_takes at (suc n) b bs = fewer_left b bs n

numeral_takes : (base : ℕ) (signs : Bool) (bs : List ℕ) → Takes bs (numeral_at base signs bs)
numeral_takes base signs bs = by (number_at base signs bs) (number_fits base signs bs)
  where
    by : (r : Found ℤ) → NumberAt base signs bs r → Takes bs (mapped numbered r)
    by (took n v) h = h.1
    by (none c) h = tt

word_takes : (t : ℕ) (ws : List (List ℕ)) (bs : List ℕ) → no_empty ws ≡ true → Takes bs (mapped (worded t) (table_at ws bs))
word_takes t ws bs e = by (table_at ws bs) (word_fits ws bs)
  where
    by : (r : Found ℕ) → WordAt ws bs r → Takes bs (mapped (worded t) r)
    by (took n k) h = h.2 e
    by (none c) h = tt

finds : (x : Eat) → takes_leaf (Leaf.eat x) ≡ true → (at : ℕ) (bs : List ℕ) → Takes bs (find x at bs)
finds (Eat.run c) e at [] = tt
finds (Eat.run c) e at (b ∷ bs) = run_takes at _ b bs
finds Eat.identifier e at [] = tt
finds Eat.identifier e at (b ∷ bs) = run_takes at _ b bs
finds (Eat.upto b) e at bs = absurd (cc)
finds (Eat.byte c) e at [] = tt
finds (Eat.byte c) e at (b ∷ bs) = some_found b bs (is_in c b) 0 end Text
finds Eat.digit e at [] = tt
finds Eat.digit e at (b ∷ bs) = some_found b bs (is_digit b) 0 (number (pos (b - 48)) end) Text
finds (Eat.numeral base signs) e at bs = numeral_takes base signs bs
finds (Eat.table t ws) e at bs = word_takes t ws bs e
finds (Eat.give c) e at bs = absurd (cc)
finds Eat.here e at bs = absurd (cc)

abbrev Shorter : State → State → Tree → Type 0
Shorter s m b = length m.rest < length s.rest

word_shorter : (c : ℕ) (w : List ℕ) (s : State) (a : Tree) (bs : List ℕ) → s.rest ≡ bs → Holds (Shorter s) (where_so trees answer go_on (starts (c ∷ w) bs) (missing_word (c ∷ w) bs) (λ u. Yes (ahead_by (suc (length w)) s) (Tree.cat a (Tree.leaf (c ∷ w) end))))
word_shorter c w s a [] e = tt
word_shorter c w s a (b ∷ bs) e = by (starts (c ∷ w) (b ∷ bs))
  where
    by : (z : Bool) → Holds (Shorter s) (where_so trees answer go_on z (missing_word (c ∷ w) (b ∷ bs)) (λ u. Yes (ahead_by (suc (length w)) s) (Tree.cat a (Tree.leaf (c ∷ w) end))))
    by true = subst (λ z. length (drop (suc (length w)) z) < length z) (sym e) (fewer_left b bs (length w))
    by false = tt

step_takes : (l : Leaf) → takes_leaf l ≡ true → (s : State) (a : Tree) → Holds (Shorter s) (stepped l s a)
step_takes (Leaf.word (c ∷ w)) e s a = word_shorter c w s a s.rest refl
step_takes (Leaf.eat x) e s a = by (find x s.at s.rest) (finds x e s.at s.rest)
  where
    by : (f : Found Core) → Takes s.rest f → Holds (Shorter s) (found trees answer go_on f (λ n v. Yes (ahead_by n s) (Tree.cat a (Tree.leaf (take n s.rest) v))))
    by (took n v) h = h
    by (none k) h = tt
step_takes (Leaf.check Cond.never) e s a = tt
step_takes Leaf.no_prefix e s a = tt
step_takes _ e s a = absurd (cc)

pub row_takes : (r : Row) → takes_row r ≡ true → takes (rule r) ≡ true
row_takes r e = implied (takes_row r) (takes (rule r)) (both_true _ _ (both_true _ _ (all_agree r)).1).0 e

pub naturals_take : (base : ℕ) (bs : List ℕ) → Takes bs (natural_at base bs)
naturals_take base bs = by (natural_at base bs) (natural_fits base bs)
  where
    by : (r : Found ℕ) → NaturalAt base bs r → Takes bs r
    by (took n v) h = h.1
    by (none c) h = tt

number_fewer : (s : State) (n v : ℕ) → natural_at 10 s.rest ≡ took n v → length (drop n s.rest) < length s.rest
number_fewer s n v e = subst (Takes s.rest) e (naturals_take 10 s.rest)

pub took_byte : {r : Rule} {s t : State} {a c : Tree} → Derives r s a t c → takes r ≡ true → length t.rest < length s.rest
took_byte Derives.nothing e = absurd (cc)
took_byte (Derives.leaf {l = l} {k = k} {s = s} {m = m} {t = t} {a = a} {b = b} h d) e =
    either (takes_leaf l) (takes k) e
    (λ p. let q : length m.rest < length s.rest = subst (Holds (Shorter s)) h (step_takes l p s a) in omega (arith, q, (keeps d).shorter))
    (λ p. let kept : Keeps s a m b = subst (Holds (Keeps s a)) h (steps l s a) in let q : length m.rest ≤ length s.rest = kept.shorter in omega (arith, q, took_byte d p))
took_byte (Derives.call {r = r} {k = k} d q) e =
    either (takes_row r) (takes k) e (λ p. omega (arith, took_byte d (row_takes r p), (keeps q).shorter)) (λ p. omega (arith, (keeps d).shorter, took_byte q p))
took_byte (Derives.last_turn d h q) e = omega (arith, (keeps d).shorter, took_byte q e)
took_byte (Derives.turn d q) e = omega (arith, (keeps d).shorter, took_byte q e)
took_byte (Derives.no_more q) e = took_byte q e
took_byte (Derives.one_more d q) e = omega (arith, (keeps d).shorter, took_byte q e)
took_byte (Derives.first {x = x} {y = y} {k = k} d q) e =
    either (takes x && takes y) (takes k) e (λ p. omega (arith, took_byte d (both_true _ _ p).0, (keeps q).shorter)) (λ p. omega (arith, (keeps d).shorter, took_byte q p))
took_byte (Derives.second {x = x} {y = y} {k = k} d q) e =
    either (takes x && takes y) (takes k) e (λ p. omega (arith, took_byte d (both_true _ _ p).1, (keeps q).shorter)) (λ p. omega (arith, (keeps d).shorter, took_byte q p))
took_byte (Derives.committed q) e = took_byte q e
took_byte (Derives.block {s = s} {n = n} {v = v} h l d z q) e =
    omega (arith, number_fewer s n v h, (keeps q).shorter, length-drop v (drop n s.rest))
took_byte (Derives.part {x = x} {k = k} d q) e =
    either (takes x) (takes k) e (λ p. omega (arith, took_byte d p, (keeps q).shorter)) (λ p. omega (arith, (keeps d).shorter, took_byte q p))
took_byte (Derives.no_trial q) e = took_byte q e
