-- Where a row can't begin with the next byte, and levels enough are left, it is refused since the bytes can't be read:
-- an alternative that begins with it is passed over.
use Rattle.std.specs.Prelude.{◌≤◌, ◌<◌, ◌+◌, ◌-◌, ◌&&◌, ◌||◌, ◌==◌, ◌++◌, not, nat_le, length, codes, if◌then◌else◌}
use Rattle.std.proofs.Common.{◌≡◌, refl, sym, ap, subst, ◌∙◌, arith, ⊎_elim, ℕ, zero, suc, Bool, true, false, List, []}
use Rattle.std.proofs.Common.{◌∷◌, Ok, Err}
use Rattle.std.proofs.lemmas.Bool.{eqb-true, leb-true, cases_lt}
use Rattle.demangle_core.specs.Core.{Core}
use Rattle.demangle_text.specs.Bytes.{is_digit}
use Rattle.demangle_text.specs.Kind.{Unread, Deep, Other}
use Rattle.demangle_text.specs.Spot.{Spot, skip}
use Rattle.demangle_text.specs.Word.{starts, missing_word, word_at}
use Rattle.demangle_grammar.specs.Rule.{Row, Class}
use Rattle.demangle_grammar.specs.Tree.{Tree, trees, nil}
use Rattle.demangle_grammar.specs.Reading.{Answer, read_from, read_all, is_empty, is_one_of, next_is}
use Rattle.demangle_grammar.specs.Reading as reading
use Rattle.demangle_grammar.specs.First.{takes_row, first, idle, Misses}
use Rattle.demangle_grammar.specs.Laws.{IsRefused, cored}
use Rattle.demangle_grammar.specs.Seen.{replied}
use Rattle.demangle_grammar.specs.Code.{Here, Reply, Found, Refused, Out, Yes, No, close, or_else}
use Rattle.demangle_grammar.specs.Code.{from_row, read_spot, cread}
use Rattle.demangle_grammar.specs.Parts.{else_row}
use Rattle.demangle_grammar.proofs.CodeLaws.{of_trees, state_of}
use Rattle.demangle_grammar.proofs.Idle.{is_idle}
use Rattle.demangle_grammar.proofs.Limits.{reads_all}
use Rattle.demangle_grammar.proofs.Truth.{both_true}

-- ---- a row
-- refused since the bytes can't be read
abbrev pub IsMissed : Reply → Type 0
IsMissed (Refused (Unread u)) = Unit {0}
IsMissed _ = ⊥

refused_is_missed : (x : Answer Tree) → IsRefused x → IsMissed (replied (cored x))
refused_is_missed (reading.No h k) r = tt
refused_is_missed (reading.Yes s a) r = absurd r
refused_is_missed reading.Deep r = absurd r

pub row_missed : (r : Row) (f : ℕ) (c : Bool) (s : Here) → takes_row r ≡ true → idle r ≤ f
    → Misses (first r) s.spot.left → IsMissed (cread f r c s [])
row_missed r f c s t l m =
    let i = is_idle 0 r c (state_of s) t m in
    let all : read_from trees f r c (state_of s) nil ≡ read_all r c (state_of s) =
    reads_all r c (state_of s) f (omega (arith, i.1, l)) in
    subst IsMissed (ap (λ x. replied (cored x)) (sym all) ∙ of_trees f r c s [])
    (refused_is_missed (read_all r c (state_of s)) i.0)

-- ---- bytes with which a row can't begin
abbrev pub none_of : (ℕ → Bool) → List ℕ → Bool
none_of g [] = true
none_of g (x ∷ xs) = not (g x) && none_of g xs

-- the row begins with none of these bytes, and goes no more than n levels deep then
abbrev pub is_apart : Row → ℕ → List ℕ → Bool
is_apart r n xs = takes_row r && (nat_le (idle r) n && none_of (first r) xs)

-- nothing is left, or the next byte is one of these
abbrev pub end_or_one : List ℕ → List ℕ → Bool
end_or_one xs bs = is_empty bs || next_is (Class.these xs) bs

none_begins : (g : ℕ → Bool) (xs : List ℕ) → none_of g xs ≡ true → (b : ℕ) → is_one_of xs b ≡ true → g b ≡ false
none_begins g [] n b e = absurd (cc)
none_begins g (x ∷ xs) n b e = by (g x) refl (x == b) refl n e (λ p q. none_begins g xs p b q)
  where
    by : (z : Bool) → g x ≡ z → (y : Bool) → (x == b) ≡ y → (not z && none_of g xs) ≡ true
        → (y || is_one_of xs b) ≡ true → (none_of g xs ≡ true → is_one_of xs b ≡ true → g b ≡ false) → g b ≡ false
    by true p y q n e more = absurd (cc)
    by false p true q n e more = ap g (sym (eqb-true x b q)) ∙ p
    by false p false q n e more = more n e

one_misses : (g : ℕ → Bool) (xs bs : List ℕ) → none_of g xs ≡ true → end_or_one xs bs ≡ true → Misses g bs
one_misses g xs [] n e = tt
one_misses g xs (b ∷ bs) n e = none_begins g xs n b e

pub apart_missed : (r : Row) (n : ℕ) (xs : List ℕ) (f : ℕ) (c : Bool) (s : Here) → is_apart r n xs ≡ true → n ≤ f
    → end_or_one xs s.spot.left ≡ true → IsMissed (cread f r c s [])
apart_missed r n xs f c s a l e =
    let ts = both_true (takes_row r) (nat_le (idle r) n && none_of (first r) xs) a in
    let bs = both_true (nat_le (idle r) n) (none_of (first r) xs) ts.1 in
    row_missed r f c s ts.0 (omega (arith, leb-true (idle r) n bs.0, l)) (one_misses (first r) xs s.spot.left bs.1 e)

-- no word begins with another byte
pub no_start : (b : ℕ) (w xs bs : List ℕ) → none_of (λ x. b == x) xs ≡ true → end_or_one xs bs ≡ true
    → starts (b ∷ w) bs ≡ false
no_start b w xs [] n e = refl
no_start b w xs (x ∷ bs) n e = ap (λ z. z && starts w bs) (none_begins (λ y. b == y) xs n x e)

pub one_or_end : (xs bs : List ℕ) → next_is (Class.these xs) bs ≡ true → end_or_one xs bs ≡ true
one_or_end xs [] e = refl
one_or_end xs (b ∷ bs) e = e

-- ---- digits are ten bytes
abbrev all_below : ℕ → (ℕ → Bool) → Bool
all_below zero g = true
all_below (suc n) g = g n && all_below n g

below_true : (n : ℕ) (g : ℕ → Bool) → all_below n g ≡ true → (k : ℕ) → k < n → g k ≡ true
below_true zero g e k l = absurd (omega arith)
below_true (suc n) g e k l =
    let es = both_true (g n) (all_below n g) e in
    ⊎_elim (λ h. below_true n g es.1 k h)
    (λ h. let q : n ≡ k = omega arith in subst (λ j. g j ≡ true) q es.0) (cases_lt k n)

digit_is_one : (b : ℕ) → is_digit b ≡ true → is_one_of (codes "0123456789") b ≡ true
digit_is_one b e =
    let es = both_true (nat_le 48 b) (nat_le b 57) e in
    let above = leb-true 48 b es.0 in
    let under = leb-true b 57 es.1 in
    let q : 48 + (b - 48) ≡ b = omega (arith, above) in
    subst (λ x. is_one_of (codes "0123456789") x ≡ true) q
    (below_true 10 (λ k. is_one_of (codes "0123456789") (48 + k)) refl (b - 48) (omega (arith, above, under)))

or_more : (z x y w : Bool) → x ≡ (y || w) → (z || x) ≡ ((z || y) || w)
or_more true x y w e = refl
or_more false x y w e = e

one_of_both : (xs ys : List ℕ) (b : ℕ) → is_one_of (xs ++ ys) b ≡ (is_one_of xs b || is_one_of ys b)
one_of_both [] ys b = refl
one_of_both (x ∷ xs) ys b =
    or_more (x == b) (is_one_of (xs ++ ys) b) (is_one_of xs b) (is_one_of ys b) (one_of_both xs ys b)

second_true : (x y : Bool) → y ≡ true → (x || y) ≡ true
second_true true y e = refl
second_true false y e = e

pub digit_or_one : (xs bs : List ℕ) → (next_is Class.digits bs || next_is (Class.these xs) bs) ≡ true
    → end_or_one (codes "0123456789" ++ xs) bs ≡ true
digit_or_one xs [] e = refl
digit_or_one xs (b ∷ bs) e = one_of_both (codes "0123456789") xs b ∙ by (is_digit b) refl e
  where
    by : (z : Bool) → is_digit b ≡ z → (z || is_one_of xs b) ≡ true
        → (is_one_of (codes "0123456789") b || is_one_of xs b) ≡ true
    by true p e = ap (λ z. z || is_one_of xs b) (digit_is_one b p)
    by false p e = second_true (is_one_of (codes "0123456789") b) (is_one_of xs b) e

-- ---- an alternative is passed over where it begins with such a row, or with a word that isn't there
abbrev pub IsPassed : Out → Type 0
IsPassed (No false (Unread u)) = Unit {0}
IsPassed _ = ⊥

pub row_passed : (x : Reply) (f : Here → Core → Out) → IsMissed x → IsPassed (from_row x f)
row_passed (Refused (Unread u)) f m = tt
row_passed (Refused Deep) f m = absurd m
row_passed (Refused Other) f m = absurd m
row_passed (Found t s) f m = absurd m

pub word_passed : (w : List ℕ) (p : Spot) (f : Spot → Out) → starts w p.left ≡ false
    → IsPassed (read_spot (word_at w p) f)
unfolding word_at
word_passed w p f e = by (starts w p.left) e
  where
    by : (z : Bool) → z ≡ false
        → IsPassed (read_spot (if z then Ok (skip (length w) p) else Err (Unread (missing_word w p.left))) f)
    by true q = absurd (cc)
    by false q = tt

-- or where what is read behind the word is
pub behind_passed : (w : List ℕ) (p : Spot) (f : Spot → Out) → IsPassed (f (skip (length w) p))
    → IsPassed (read_spot (word_at w p) f)
unfolding word_at
behind_passed w p f h = by (starts w p.left)
  where
    by : (z : Bool)
        → IsPassed (read_spot (if z then Ok (skip (length w) p) else Err (Unread (missing_word w p.left))) f)
    by true = h
    by false = tt

pub both_passed : (o : Out) (f : Unit {0} → Out) → IsPassed o → IsPassed (f tt) → IsPassed (or_else o f)
both_passed (No false (Unread u)) f a b = b
both_passed (No false Deep) f a b = absurd a
both_passed (No false Other) f a b = absurd a
both_passed (No true k) f a b = absurd a
both_passed (Yes s acc) f a b = absurd a

pub closed_missed : (o : Out) → IsPassed o → IsMissed (close o)
closed_missed (No false (Unread u)) h = tt
closed_missed (No false Deep) h = absurd h
closed_missed (No false Other) h = absurd h
closed_missed (No true k) h = absurd h
closed_missed (Yes s acc) h = absurd h

pub passed_on : (o : Out) (f : Unit {0} → Reply) → IsPassed o → else_row o f ≡ f tt
passed_on (No false (Unread u)) f h = refl
passed_on (No false Deep) f h = absurd h
passed_on (No false Other) f h = absurd h
passed_on (No true k) f h = absurd h
passed_on (Yes s acc) f h = absurd h

-- the same among alternatives whose last is no reply
pub passed_in : (o : Out) (f : Unit {0} → Out) → IsPassed o → or_else o f ≡ f tt
passed_in (No false (Unread u)) f h = refl
passed_in (No false Deep) f h = absurd h
passed_in (No false Other) f h = absurd h
passed_in (No true k) f h = absurd h
passed_in (Yes s acc) f h = absurd h
