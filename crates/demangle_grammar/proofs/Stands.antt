-- Bytes that stand in an input.
use Rattle.std.specs.Prelude.{◌≡◌, ℕ, ◌+◌, ◌-◌, ◌≤◌, List, ◌++◌, length, take, drop}
use Rattle.std.proofs.Common.{subst, sym, ap, ◌∙◌, arith, append_assoc, length-append}
use Rattle.std.proofs.Math.Seq.{drop-append_seam, take-append_seam}
use Rattle.std.proofs.lemmas.List.{take-append-drop, length-drop, drop-drop}
use Rattle.demangle_grammar.specs.Tree.{Tree, spell}
use Rattle.demangle_grammar.specs.Reading.{State}
use Rattle.demangle_grammar.specs.Sound.{bytes_of, StandsAt}
use Rattle.demangle_grammar.proofs.Kept.{Keeps}

-- with what is behind them
abbrev pub Stand : List ℕ → ℕ → List ℕ → Type 0
Stand input i bs = (behind : List ℕ) × (drop i input ≡ bs ++ behind) × (i ≤ length input)

pub stand : (input : List ℕ) (i : ℕ) (bs : List ℕ) → StandsAt input i bs → Stand input i bs
stand input i bs h =
    let n = (i + length bs) - i in
    (drop n (drop i input), sym (take-append-drop n (drop i input)) ∙ ap (λ z. z ++ drop n (drop i input)) h.1, omega (arith, h.0))

pub stand_front : (input : List ℕ) (i : ℕ) (xs ys : List ℕ) → Stand input i (xs ++ ys) → Stand input i xs
stand_front input i xs ys h = (ys ++ h.0, h.1 ∙ append_assoc xs ys h.0, h.2)

long : (input : List ℕ) (i : ℕ) (bs : List ℕ) (h : Stand input i bs) → length input ≡ i + (length bs + length h.0)
long input i bs h =
    let n : length (drop i input) ≡ length bs + length h.0 = ap length h.1 ∙ length-append bs h.0 in
    omega (arith, n, length-drop i input, h.2)

pub stand_behind : (input : List ℕ) (i : ℕ) (xs ys : List ℕ) → Stand input i (xs ++ ys) → Stand input (i + length xs) ys
stand_behind input i xs ys h = (
  h.0,
  sym (drop-drop (length xs) i input) ∙ ap (drop (length xs)) (h.1 ∙ append_assoc xs ys h.0) ∙ drop-append_seam xs (ys ++ h.0),
  omega (arith, long input i (xs ++ ys) h, length-append xs ys),
)

pub stand_both : (input : List ℕ) (i : ℕ) (xs ys : List ℕ) → Stand input i xs → Stand input (i + length xs) ys → Stand input i (xs ++ ys)
stand_both input i xs ys h k =
    let e : h.0 ≡ ys ++ k.0 = sym (drop-append_seam xs h.0) ∙ sym (ap (drop (length xs)) h.1) ∙ drop-drop (length xs) i input ∙ k.1 in
    (k.0, h.1 ∙ ap (λ z. xs ++ z) e ∙ sym (append_assoc xs ys k.0), h.2)

-- they are the bytes between their indexes, which lie in the input
pub stand_within : (input : List ℕ) (i : ℕ) (bs : List ℕ) → Stand input i bs → i + length bs ≤ length input
stand_within input i bs h = omega (arith, long input i bs h)

pub stand_bytes : (input : List ℕ) (i : ℕ) (bs : List ℕ) → Stand input i bs → bytes_of input i (i + length bs) ≡ bs
stand_bytes input i bs h =
    let n : (i + length bs) - i ≡ length bs = omega arith in
    ap (λ k. take k (drop i input)) n ∙ ap (take (length bs)) h.1 ∙ take-append_seam bs h.0

-- ---- where a reading goes on
-- the lesser end of two spellings of one list
end_of : (xs r ys u : List ℕ) → xs ++ r ≡ ys ++ u → length u ≤ length r → (z : List ℕ) × (r ≡ z ++ u)
end_of xs r ys u e l =
    let n : length xs + length r ≡ length ys + length u = sym (length-append xs r) ∙ ap length e ∙ length-append ys u in
    let k = length ys - length xs in
    let m : length ys ≡ length xs + k = omega (arith, n, l) in
    let it : drop k r ≡ u =
    ap (drop k) (sym (drop-append_seam xs r)) ∙ drop-drop k (length xs) (xs ++ r) ∙ ap (λ j. drop j (xs ++ r)) (sym m) ∙ ap (drop (length ys)) e ∙ drop-append_seam ys u in
    (take k r, sym (take-append-drop k r) ∙ ap (λ z. take k r ++ z) it)

-- what is left behind a reading stands in the input as well
pub goes_on : (input : List ℕ) {s t : State} {a c : Tree} → Keeps s a t c → Stand input s.at s.rest → Stand input t.at t.rest
goes_on input {s} {t} {a} {c} k h =
    let z = end_of (spell a) s.rest (spell c) t.rest k.spells k.shorter in
    let n : length s.rest ≡ length z.0 + length t.rest = ap length z.1 ∙ length-append z.0 t.rest in
    let i : s.at + length z.0 ≡ t.at = omega (arith, n, k.at) in
    subst (λ j. Stand input j t.rest) i (stand_behind input s.at z.0 t.rest (subst (Stand input s.at) z.1 h))
