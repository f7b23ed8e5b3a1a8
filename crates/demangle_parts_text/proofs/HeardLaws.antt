-- Laws on what a listener keeps.
use Rattle.std.proofs.Common.{◌≡◌, ℕ, ◌+◌, Bool, true, false, cond, List, [], ◌∷◌, ◌++◌, length, take, drop, refl}
use Rattle.std.proofs.Common.{sym, ap, arith, Some, ◌∙◌, ◌<◌, ◌≤◌, ◌&&◌, ◌||◌, nat_lt, nat_le, rules, tests}
use Rattle.std.proofs.lemmas.Str.{IsCharBoundary-start}
use Rattle.std.specs.Str.{IsUtf8}
use Rattle.std.proofs.lemmas.Grind.{common_steps}
use Rattle.std.proofs.Math.Seq.{take-length}
use Rattle.demangle_meets.specs.Seen.{Call, HaveText, piece, begins, ends, Grows}
use Rattle.demangle_context.specs.Hears.{Hears}
use Rattle.demangle_context.specs.Kinds.{kind_of}
use Rattle.demangle_context.specs.declared.listener.DemangleNodeType.{DemangleNodeType}
use Rattle.demangle_parts_text.specs.Heard.{calls, sizes, told_calls}
use Rattle.demangle_parts_text.specs.MarkOf.{is_piece}
use Rattle.demangle_parts_text.specs.Marks.{begin_chars, begins_char}
use Rattle.demangle_parts_text.specs.declared.mark.Mark.{Mark}
use Rattle.demangle_parts_text.specs.declared.mark.Mark.TheVariants as mark

pub sizes-append : (ms ns : List Mark) → sizes (ms ++ ns) ≡ sizes ms + sizes ns
unfolding sizes
sizes-append [] ns = omega arith
sizes-append (mark.Piece n ∷ ms) ns = let h = sizes-append ms ns in omega arith
sizes-append (mark.Begins k ∷ ms) ns = sizes-append ms ns
sizes-append (mark.Ends ∷ ms) ns = sizes-append ms ns

-- a mark without text, whether it was kept or not
pub sizes-begins : (b : Bool) (k : DemangleNodeType) (ms new : List Mark) (n : ℕ)
    → new ≡ cond b (ms ++ mark.Begins k ∷ []) ms → sizes ms ≡ n → sizes new ≡ n
unfolding sizes
sizes-begins true k ms new n e h = rw (e, sizes-append ms (mark.Begins k ∷ [])) (omega arith)
sizes-begins false k ms new n e h = rw e h

pub sizes-ends : (b : Bool) (ms new : List Mark) (n : ℕ) → new ≡ cond b (ms ++ mark.Ends ∷ []) ms → sizes ms ≡ n
    → sizes new ≡ n
unfolding sizes
sizes-ends true ms new n e h = rw (e, sizes-append ms (mark.Ends ∷ [])) (omega arith)
sizes-ends false ms new n e h = rw e h

-- a piece, kept or not
pub sizes-piece : (b : Bool) (t s t' : List ℕ) (ms ms' : List Mark) → sizes ms ≡ length t
    → (b ≡ true → t' ≡ t ++ s) → (b ≡ true → ms' ≡ ms ++ mark.Piece (length s) ∷ [])
    → (b ≡ false → t' ≡ t) → (b ≡ false → ms' ≡ ms) → sizes ms' ≡ length t'
unfolding sizes
sizes-piece true t s t' ms ms' h p q r u =
    let l : length (t ++ s) ≡ length t + length s = grind (arith, common_steps) in
    rw (p refl, q refl, sizes-append ms (mark.Piece (length s) ∷ []), l) (omega arith)
sizes-piece false t s t' ms ms' h p q r u = rw (r refl, u refl) h

-- ---- the calls
calls-begins : (k : DemangleNodeType) (t : List ℕ) (ms : List Mark)
    → calls t (ms ++ mark.Begins k ∷ []) ≡ calls t ms ++ begins (kind_of k) ∷ []
unfolding calls
calls-begins k t [] = refl
calls-begins k t (mark.Piece n ∷ ms) = ap (λ l. piece (take n t) ∷ l) (calls-begins k (drop n t) ms)
calls-begins k t (mark.Begins j ∷ ms) = ap (λ l. begins (kind_of j) ∷ l) (calls-begins k t ms)
calls-begins k t (mark.Ends ∷ ms) = ap (λ l. ends ∷ l) (calls-begins k t ms)

calls-ends : (t : List ℕ) (ms : List Mark) → calls t (ms ++ mark.Ends ∷ []) ≡ calls t ms ++ ends ∷ []
unfolding calls
calls-ends t [] = refl
calls-ends t (mark.Piece n ∷ ms) = ap (λ l. piece (take n t) ∷ l) (calls-ends (drop n t) ms)
calls-ends t (mark.Begins j ∷ ms) = ap (λ l. begins (kind_of j) ∷ l) (calls-ends t ms)
calls-ends t (mark.Ends ∷ ms) = ap (λ l. ends ∷ l) (calls-ends t ms)

nothing : (t : List ℕ) → length t ≡ 0 → t ≡ []
nothing [] e = refl
nothing (b ∷ bs) e = absurd (omega arith)

calls-piece : (s t : List ℕ) (ms : List Mark) → sizes ms ≡ length t
    → calls (t ++ s) (ms ++ mark.Piece (length s) ∷ []) ≡ calls t ms ++ piece s ∷ []
unfolding calls sizes
calls-piece s t [] h = rw (nothing t (sym h), take-length s) refl
calls-piece s t (mark.Piece n ∷ ms) h =
    let front : take n (t ++ s) ≡ take n t = grind (arith, common_steps) in
    let back : drop n (t ++ s) ≡ drop n t ++ s = grind (arith, common_steps) in
    let size : sizes ms ≡ length (drop n t) = grind (arith, common_steps) in
    rw (front, back) (ap (λ l. piece (take n t) ∷ l) (calls-piece s (drop n t) ms size))
calls-piece s t (mark.Begins j ∷ ms) h = ap (λ l. begins (kind_of j) ∷ l) (calls-piece s t ms h)
calls-piece s t (mark.Ends ∷ ms) h = ap (λ l. ends ∷ l) (calls-piece s t ms h)

told : (lost : Bool) (t t' : List ℕ) (ms ms' : List Mark) (c : Call) → calls t' ms' ≡ calls t ms ++ c ∷ []
    → Grows (told_calls lost t ms) (told_calls lost t' ms') (c ∷ [])
told true t t' ms ms' c e = tt
told false t t' ms ms' c e = e

-- ---- what is heard
pub hears-begins : (lost : Bool) (n : ℕ) (k : DemangleNodeType) (t : List ℕ) (ms new : List Mark)
    → new ≡ ms ++ mark.Begins k ∷ []
    → Hears (record { text = Some t; calls = told_calls lost t ms; faults = 0; refusals = n })
    (record { text = Some t; calls = told_calls lost t new; faults = 0; refusals = n }) (begins (kind_of k))
hears-begins lost n k t ms new e = rw e record {
  text = refl;
  calls = told lost t t ms (ms ++ mark.Begins k ∷ []) (begins (kind_of k)) (calls-begins k t ms);
  faults = refl;
  refusals = refl;
}

pub hears-ends : (lost : Bool) (n : ℕ) (t : List ℕ) (ms new : List Mark) → new ≡ ms ++ mark.Ends ∷ []
    → Hears (record { text = Some t; calls = told_calls lost t ms; faults = 0; refusals = n })
    (record { text = Some t; calls = told_calls lost t new; faults = 0; refusals = n }) ends
hears-ends lost n t ms new e = rw e record {
  text = refl;
  calls = told lost t t ms (ms ++ mark.Ends ∷ []) ends (calls-ends t ms);
  faults = refl;
  refusals = refl;
}

pub hears-piece : (lost : Bool) (n : ℕ) (t s t' : List ℕ) (ms ms' : List Mark) → sizes ms ≡ length t
    → t' ≡ t ++ s → ms' ≡ ms ++ mark.Piece (length s) ∷ []
    → Hears (record { text = Some t; calls = told_calls lost t ms; faults = 0; refusals = n })
    (record { text = Some t'; calls = told_calls lost t' ms'; faults = 0; refusals = n }) (piece s)
hears-piece lost n t s t' ms ms' h e f = rw (e, f) record {
  text = refl;
  calls = told lost t (t ++ s) ms (ms ++ mark.Piece (length s) ∷ []) (piece s) (calls-piece s t ms h);
  faults = refl;
  refusals = refl;
}

-- ---- where characters begin
pub first-so : (a b : Bool) → (a && b) ≡ true → a ≡ true
first-so true b e = refl
first-so false b e = e

pub second-so : (a b : Bool) → (a && b) ≡ true → b ≡ true
second-so true b e = e
second-so false b e = absurd cc

chars-more : (d : Bool) (t : List ℕ) (ms : List Mark) (m : Mark) → is_piece m ≡ false
    → begin_chars d t (ms ++ m ∷ []) ≡ begin_chars d t ms
unfolding begin_chars
chars-more d t [] (mark.Piece n) e = absurd cc
chars-more d t [] (mark.Begins k) e = refl
chars-more d t [] mark.Ends e = refl
chars-more d t (mark.Piece n ∷ ms) m e = ap (λ b. begins_char d (take n t) && b) (chars-more d (drop n t) ms m e)
chars-more d t (mark.Begins k ∷ ms) m e = chars-more d t ms m e
chars-more d t (mark.Ends ∷ ms) m e = chars-more d t ms m e

pub chars-mark : (b : Bool) (t : List ℕ) (m : Mark) (ms new : List Mark) → is_piece m ≡ false
    → new ≡ cond b (ms ++ m ∷ []) ms → begin_chars true t ms ≡ true → begin_chars true t new ≡ true
chars-mark true t m ms new p e h = ap (begin_chars true t) e ∙ chars-more true t ms m p ∙ h
chars-mark false t m ms new p e h = ap (begin_chars true t) e ∙ h

either : (a b : Bool) → (a ≡ false → b ≡ true) → (a || b) ≡ true
either true b h = refl
either false b h = h refl

begins-text : (s : List ℕ) → IsUtf8 s → begins_char true s ≡ true
begins-text [] u = refl
begins-text (b ∷ bs) u =
    let boundary = IsCharBoundary-start (b ∷ bs) u in
    either (nat_lt b 128) (nat_le 192 b)
    (λ e.
    let high : 128 ≤ b = search (rules, tests) in
    let first = boundary.1 (let some : 0 < length (b ∷ bs) = omega arith in some) high in
    search (rules, tests))

both-so : (a b : Bool) → a ≡ true → b ≡ true → (a && b) ≡ true
both-so a b e f = ap (λ x. x && b) e ∙ f

chars-piece : (s t : List ℕ) (ms : List Mark) → sizes ms ≡ length t → IsUtf8 s → begin_chars true t ms ≡ true
    → begin_chars true (t ++ s) (ms ++ mark.Piece (length s) ∷ []) ≡ true
unfolding begin_chars sizes
chars-piece s t [] h u c =
    rw (nothing t (sym h), take-length s) (both-so (begins_char true s) true (begins-text s u) refl)
chars-piece s t (mark.Piece n ∷ ms) h u c =
    let front : take n (t ++ s) ≡ take n t = grind (arith, common_steps) in
    let back : drop n (t ++ s) ≡ drop n t ++ s = grind (arith, common_steps) in
    let size : sizes ms ≡ length (drop n t) = grind (arith, common_steps) in
    let first = first-so (begins_char true (take n t)) (begin_chars true (drop n t) ms) c in
    let rest = chars-piece s (drop n t) ms size u
    (second-so (begins_char true (take n t)) (begin_chars true (drop n t) ms) c) in
    rw (front, back) (both-so (begins_char true (take n t)) _ first rest)
chars-piece s t (mark.Begins k ∷ ms) h u c = chars-piece s t ms h u c
chars-piece s t (mark.Ends ∷ ms) h u c = chars-piece s t ms h u c

-- a piece, kept or not
pub chars-kept : (b : Bool) (t s t' : List ℕ) (ms ms' : List Mark) → sizes ms ≡ length t → IsUtf8 s
    → begin_chars true t ms ≡ true → (b ≡ true → t' ≡ t ++ s) → (b ≡ true → ms' ≡ ms ++ mark.Piece (length s) ∷ [])
    → (b ≡ false → t' ≡ t) → (b ≡ false → ms' ≡ ms) → begin_chars true t' ms' ≡ true
chars-kept true t s t' ms ms' h u c p q r v = rw (p refl, q refl) (chars-piece s t ms h u c)
chars-kept false t s t' ms ms' h u c p q r v = rw (r refl, v refl) c

-- where no piece is empty
full-piece : (a b : List ℕ) → begins_char true a ≡ true → 0 < length a → begins_char false a ≡ true
full-piece [] b e s = absurd (omega arith)
full-piece (x ∷ xs) b e s = e

pub chars-full : (t : List ℕ) (ms : List Mark) → HaveText (calls t ms) → begin_chars true t ms ≡ true
    → begin_chars false t ms ≡ true
unfolding begin_chars calls
chars-full t [] h c = refl
chars-full t (mark.Piece n ∷ ms) h c =
    both-so (begins_char false (take n t)) _
    (full-piece (take n t) [] (first-so (begins_char true (take n t)) (begin_chars true (drop n t) ms) c) h.0)
    (chars-full (drop n t) ms h.1 (second-so (begins_char true (take n t)) (begin_chars true (drop n t) ms) c))
chars-full t (mark.Begins k ∷ ms) h c = chars-full t ms h c
chars-full t (mark.Ends ∷ ms) h c = chars-full t ms h c
