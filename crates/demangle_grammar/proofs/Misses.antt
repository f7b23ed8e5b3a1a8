-- A leaf that stops fails where the next byte isn't one with which it begins.
use Rattle.std.specs.Prelude.{◌≡◌, ℕ, zero, suc, ◌<◌, Bool, true, false, cond, ◌&&◌, ◌||◌, List, [], ◌∷◌, length, drop, ◌==◌}
use Rattle.std.proofs.Common.{refl, subst, sym, ap, ◌∙◌, arith}
use Rattle.std.proofs.lemmas.Bool.{true≢false}
use Rattle.demangle_core.specs.Core.{Core}
use Rattle.demangle_grammar.specs.Rule.{Leaf, Eat, Cond, Class}
use Rattle.demangle_grammar.specs.Tree.{trees, Tree}
use Rattle.demangle_grammar.specs.Reading.{State, Answer, No, stepped, found, where_so, answer, go_on, find, run_at, identifier_at, run_found, is_in, next_is, any_starts, no_digit, numbered, worded}
use Rattle.demangle_grammar.specs.First.{takes_leaf, begins_leaf, stops, heads, no_empty, Misses}
use Rattle.demangle_text.specs.Word.{starts}
use Rattle.demangle_text.specs.Number.{number_at}
use Rattle.demangle_text.specs.Kind.{Cause, Text}
use Rattle.demangle_text.specs.Found.{Found, took, none}
use Rattle.demangle_text.specs.Bytes.{is_digit}
use Rattle.demangle_text.specs.Characters.{begins_char, identifier_len}
use Rattle.demangle_text.proofs.Identifiers.{run_begins}
use Rattle.demangle_grammar.proofs.Numbers.{Missing, span_zero, mapped_missing, number_missing, word_missing}
use Rattle.demangle_grammar.proofs.Truth.{or_false}
use Rattle.demangle_vocab.specs.WordTable.{table_at}

abbrev pub Fails : Answer Tree → Type 0
Fails (No false k) = Unit {0}
Fails _ = ⊥

run_missing : (c : Class) (at : ℕ) (bs : List ℕ) → Misses (is_in c) bs → Missing (run_at c at bs)
run_missing c at [] e = tt
run_missing c at (b ∷ bs) e = subst (λ n. Missing (run_found at n)) (sym (span_zero (is_in c) b bs e)) tt

identifier_missing : (at : ℕ) (bs : List ℕ) → Misses begins_char bs → Missing (identifier_at at bs)
identifier_missing at [] e = tt
identifier_missing at (b ∷ bs) e = by (identifier_len (b ∷ bs)) (run_begins b bs)
  where
    by : (n : ℕ) → (0 < n → begins_char b ≡ true) → Missing (run_found at n)
    by zero h = tt
    by (suc n) h = let begins = h (omega arith) in absurd (true≢false (sym begins ∙ e))

test_missing : (z : Bool) (f : Found Core) (k : Cause) → z ≡ false → Missing (cond z f (none k))
test_missing true f k e = absurd (cc)
test_missing false f k e = tt

no_starts : (ws : List (List ℕ)) (bs : List ℕ) → no_empty ws ≡ true → Misses (heads ws) bs → any_starts ws bs ≡ false
no_starts [] bs n e = refl
no_starts ([] ∷ ws) bs n e = absurd (cc)
no_starts ((c ∷ w) ∷ ws) [] n e = no_starts ws [] n tt
no_starts ((c ∷ w) ∷ ws) (b ∷ bs) n e = by (c == b) (or_false _ _ e).0 (no_starts ws (b ∷ bs) n (or_false _ _ e).1)
  where
    by : (z : Bool) → z ≡ false → any_starts ws (b ∷ bs) ≡ false → ((z && starts w bs) || any_starts ws (b ∷ bs)) ≡ false
    by true p h = absurd (cc)
    by false p h = h

heads_miss : (ws : List (List ℕ)) (bs : List ℕ) → Misses (begins_leaf (Leaf.eat (Eat.table 0 ws))) bs → Misses (heads ws) bs
heads_miss ws [] e = tt
heads_miss ws (b ∷ bs) e = e

finds_none : (x : Eat) → takes_leaf (Leaf.eat x) ≡ true → (at : ℕ) (bs : List ℕ) → Misses (begins_leaf (Leaf.eat x)) bs → Missing (find x at bs)
finds_none (Eat.run c) t at bs e = run_missing c at bs e
finds_none Eat.identifier t at [] e = tt
finds_none Eat.identifier t at (b ∷ bs) e = identifier_missing at (b ∷ bs) e
finds_none (Eat.upto b) t at bs e = absurd (cc)
finds_none (Eat.byte c) t at [] e = tt
finds_none (Eat.byte c) t at (b ∷ bs) e = test_missing (is_in c b) _ _ e
finds_none Eat.digit t at [] e = tt
finds_none Eat.digit t at (b ∷ bs) e = test_missing (is_digit b) _ _ e
finds_none (Eat.numeral base signs) t at bs e = mapped_missing numbered (number_at base signs bs) (number_missing base signs bs e)
finds_none (Eat.table n ws) t at bs e = mapped_missing (worded n) (table_at ws bs) (word_missing ws bs t (heads_miss ws bs e))
finds_none (Eat.give c) t at bs e = absurd (cc)
finds_none Eat.here t at bs e = absurd (cc)

so_fails : (k : Cause) (b : Bool) (go : Unit {0} → Answer Tree) → b ≡ false → Fails (where_so trees answer go_on b k go)
so_fails k true go e = absurd (cc)
so_fails k false go e = tt

found_fails : (f : Found Core) (go : ℕ → Core → Answer Tree) → Missing f → Fails (found trees answer go_on f go)
found_fails (took n v) go m = absurd m
found_fails (none k) go m = tt

next_fails : (c : Class) (bs : List ℕ) → Misses (is_in c) bs → next_is c bs ≡ false
next_fails c [] e = refl
next_fails c (b ∷ bs) e = e

no_start : (c : ℕ) (w bs : List ℕ) (x : Bool) → Misses (λ b. c == b) bs → (starts (c ∷ w) bs && x) ≡ false
no_start c w [] x e = refl
no_start c w (b ∷ bs) x e = by (c == b) e
  where
    by : (z : Bool) → z ≡ false → ((z && starts w bs) && x) ≡ false
    by true p = absurd (cc)
    by false p = refl

no_word_start : (c : ℕ) (w bs : List ℕ) → Misses (λ b. c == b) bs → starts (c ∷ w) bs ≡ false
no_word_start c w [] e = refl
no_word_start c w (b ∷ bs) e = ap (λ z. z && starts w bs) e

pub stop_fails : (l : Leaf) → stops l ≡ true → (s : State) (a : Tree) → Misses (begins_leaf l) s.rest → Fails (stepped l s a)
stop_fails (Leaf.word (c ∷ w)) t s a e = so_fails _ (starts (c ∷ w) s.rest) _ (no_word_start c w s.rest e)
stop_fails (Leaf.eat x) t s a e = found_fails (find x s.at s.rest) _ (finds_none x t s.at s.rest e)
stop_fails (Leaf.check (Cond.next c)) t s a e = so_fails Text (next_is c s.rest) _ (next_fails c s.rest e)
stop_fails (Leaf.check (Cond.ahead ws)) t s a e = so_fails Text (any_starts ws s.rest) _ (no_starts ws s.rest t e)
stop_fails (Leaf.check (Cond.ahead_no_digit (c ∷ w))) t s a e = so_fails Text (starts (c ∷ w) s.rest && no_digit (drop (length (c ∷ w)) s.rest)) _ (no_start c w s.rest _ e)
stop_fails (Leaf.check Cond.never) t s a e = tt
stop_fails Leaf.no_prefix t s a e = tt
stop_fails _ t s a e = absurd (cc)
