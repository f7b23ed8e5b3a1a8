-- Laws on lines that stay: what is due for them, what is kept behind them, and how code finds them.
use Rattle.std.proofs.Common.{◌≡◌, ℕ, suc, ◌+◌, ◌≤◌, ◌<◌, Bool, true, false, ◌&&◌, ◌||◌, not, eqb, List, [], ◌∷◌, ◌++◌}
use Rattle.std.proofs.Common.{length, take, drop, refl, sym, ap, ◌∙◌, append_assoc, arith}
use Rattle.std.proofs.Common.{get_or, fold, ◌-◌, zero, take-append-drop}
use Rattle.std.proofs.lemmas.List.{get_or-take, length-take-le}
use Rattle.std.proofs.Math.Seq.{take-add, take-suc, take-length}
use Rattle.std.proofs.lemmas.Grind.{common_steps}
use Rattle.std.specs.Prelude.{Option}
use Rattle.std.proofs.Math.Bool.{and_assoc, and-true, and-false}
use Rattle.std.proofs.lemmas.Bool.{true≢false, not-true}
use Rattle.std.proofs.lemmas.List.Sums.{fold-append}
use Rattle.cppfilt_ends.specs.Moves.{Moves, Begins}
use Rattle.cppfilt_ends.proofs.MoveLaws.{moves-more, begins-more}
use Rattle.cppfilt_lines.specs.Due.{due, shown_line}
use Rattle.cppfilt_lines.specs.Lines.{before_feed, body, ending, line_after, unfinished}
use Rattle.cppfilt_lines.specs.Shown.{is_asked}
use Rattle.cppfilt_lines.specs.declared.options.FilterOptions.{FilterOptions}
use Rattle.cppfilt_lines.proofs.LineLaws.{body-ending, shown-kept}
use Rattle.cppfilt_run.specs.Owed.{ahead}
use Rattle.cppfilt_run.specs.Staying.{begins_line, stays, stays_behind}
use Rattle.cppfilt_run.proofs.OwedLaws.{due-completed, free-append}
use Rattle.cppfilt_run.proofs.ShownLaws.{unnamed}

-- ---- bytes behind bytes
begins-append : (p : Bool) (xs ys : List ℕ) → begins_line p (xs ++ ys) ≡ begins_line (begins_line p xs) ys
unfolding begins_line
begins-append p [] ys = refl
begins-append p (x ∷ xs) ys = begins-append (eqb x 10) xs ys

stays-append : (p : Bool) (xs ys : List ℕ) → stays p (xs ++ ys) ≡ (stays p xs && stays (begins_line p xs) ys)
unfolding stays begins_line
stays-append p [] ys = refl
stays-append p (x ∷ xs) ys =
    ap (λ t. not (p && eqb x 95) && t) (stays-append (eqb x 10) xs ys)
    ∙ sym (and_assoc (not (p && eqb x 95)) (stays (eqb x 10) xs) (stays (begins_line (eqb x 10) xs) ys))

left : (a b : Bool) → (a && b) ≡ true → a ≡ true
left true b e = refl
left false b e = e

right : (a b : Bool) → (a && b) ≡ true → b ≡ true
right true b e = e
right false b e = absurd (true≢false (sym e))

stays-both : (p : Bool) (xs ys : List ℕ) → stays p xs ≡ true → stays (begins_line p xs) ys ≡ true
    → stays p (xs ++ ys) ≡ true
stays-both p xs ys e f = rw (stays-append p xs ys, e, f) refl

-- the byte before decides
pub begins-last : (p : Bool) (xs : List ℕ) (i : ℕ) → length xs ≡ suc i → begins_line p xs ≡ eqb (get_or xs i 0) 10
unfolding begins_line
begins-last p [] i e = absurd (omega arith)
begins-last p (x ∷ []) i e = let none : i ≡ 0 = omega arith in rw none refl
begins-last p (x ∷ (y ∷ ys)) i e =
    let behind : i ≡ suc (length ys) = omega arith in
    rw behind (begins-last (eqb x 10) (y ∷ ys) (length ys) refl)

-- ---- as code finds them
-- the byte before tells whether a line begins
pub begins-at : (bytes : List ℕ) (at : ℕ) → at ≤ length bytes → 0 < at
    → begins_line true (take at bytes) ≡ eqb (get_or bytes (at - 1) 0) 10
begins-at bytes zero within some = absurd (omega arith)
begins-at bytes (suc i) within some =
    let before' : suc i - 1 ≡ i = omega arith in
    rw before' (begins-last true (take (suc i) bytes) i (length-take-le (suc i) bytes within)
    ∙ ap (λ b. eqb b 10) (get_or-take (suc i) bytes i 0 (omega arith)))

pub begins-first : (bytes : List ℕ) (at : ℕ) → at ≡ 0 → begins_line true (take at bytes) ≡ true
unfolding begins_line
begins-first bytes at none = rw none refl

pub begins-behind : (bytes : List ℕ) (at : ℕ) → begins_line true (take at bytes) ≡ false → 0 < at
unfolding begins_line
begins-behind bytes zero other = absurd (true≢false other)
begins-behind bytes (suc i) other = omega arith

take-next : (bytes : List ℕ) (at : ℕ) → at < length bytes
    → take (at + 1) bytes ≡ take at bytes ++ (get_or bytes at 0 ∷ [])
take-next bytes at within =
    ap (λ n. take n bytes) (let next : at + 1 ≡ suc at = omega arith in next) ∙ take-suc bytes at 0 within

-- past a byte that begins no line
pub stays-past : (bytes : List ℕ) (at : ℕ) → at < length bytes → stays true (take at bytes) ≡ true
    → begins_line true (take at bytes) ≡ false → stays true (take (at + 1) bytes) ≡ true
unfolding stays
stays-past bytes at within stay inside =
    let one : take (at + 1) bytes ≡ take at bytes ++ (get_or bytes at 0 ∷ []) = take-next bytes at within in
    rw one (stays-both true (take at bytes) (get_or bytes at 0 ∷ []) stay (rw inside refl))

-- past another byte
pub stays-other : (bytes : List ℕ) (at : ℕ) → at < length bytes → stays true (take at bytes) ≡ true
    → eqb (get_or bytes at 0) 95 ≡ false → stays true (take (at + 1) bytes) ≡ true
unfolding stays
stays-other bytes at within stay other =
    let one : take (at + 1) bytes ≡ take at bytes ++ (get_or bytes at 0 ∷ []) = take-next bytes at within in
    rw one (stays-both true (take at bytes) (get_or bytes at 0 ∷ []) stay (rw (other, and-false _) refl))

-- the first byte
pub stays-one : (bytes : List ℕ) → eqb (get_or bytes 0 0) 95 ≡ false → stays true (take 1 bytes) ≡ true
unfolding stays
stays-one [] other = refl
stays-one (b ∷ bs) other = rw other refl

-- ---- behind a byte
pub behind-one : (bytes : List ℕ) → stays_behind (take 1 bytes) ≡ true
unfolding stays
behind-one [] = refl
behind-one (b ∷ bs) = refl

-- one more byte
behind-next : (bytes : List ℕ) (i : ℕ) → 1 ≤ i → i < length bytes → stays_behind (take (i + 1) bytes)
    ≡ (stays_behind (take i bytes) && not (eqb (get_or bytes (i - 1) 0) 10 && eqb (get_or bytes i 0) 95))
unfolding stays begins_line
behind-next [] i some within = absurd (omega arith)
behind-next (b ∷ bs) zero some within = absurd (omega arith)
behind-next (b ∷ bs) (suc j) some within =
    let next : suc j + 1 ≡ suc (suc j) = omega arith in
    let x = get_or bs j 0 in
    let one : take (suc j) bs ≡ take j bs ++ (x ∷ []) = take-suc bs j 0 (omega arith) in
    let before' = begins-at (b ∷ bs) (suc j) (omega arith) (omega arith) in
    rw (next, one, stays-append (eqb b 10) (take j bs) (x ∷ []), before', and-true _) refl

or-not : (s a x : Bool) → s ≡ not a → (s || x) ≡ not (a && not x)
or-not s true true e = rw e refl
or-not s true false e = rw e refl
or-not s false x e = rw e refl

pub seen-next : (bytes : List ℕ) (i : ℕ) (s : Bool) → 1 ≤ i → i < length bytes → s ≡ not (stays_behind (take i bytes))
    → (s || (eqb (get_or bytes (i - 1) 0) 10 && eqb (get_or bytes i 0) 95)) ≡ not (stays_behind (take (i + 1) bytes))
seen-next bytes i s some within e = or-not s _ _ e ∙ ap not (sym (behind-next bytes i some within))

-- as many more
joined : (p : Bool) (xs : List ℕ) (b : ℕ) (ys : List ℕ) → stays p (xs ++ (b ∷ [])) ≡ true → stays (eqb b 10) ys ≡ true
    → stays p (xs ++ (b ∷ ys)) ≡ true
unfolding begins_line
joined p xs b ys e f =
    let at : begins_line p (xs ++ (b ∷ [])) ≡ eqb b 10 = begins-append p xs (b ∷ []) in
    rw (← append_assoc xs (b ∷ []) ys) (stays-both p (xs ++ (b ∷ [])) ys e (rw at f))

chunk-behind : (xs d : List ℕ) (n : ℕ) → 0 < length d → stays true (xs ++ take 1 d) ≡ true
    → stays_behind (take (suc n) d) ≡ true → stays true (xs ++ take (suc n) d) ≡ true
chunk-behind xs [] n some e f = absurd (omega arith)
chunk-behind xs (b ∷ bs) n some e f = joined true xs b (take n bs) e f

pub stays-chunk : (bytes : List ℕ) (at m : ℕ) → m ≡ 33 → at + 32 < length bytes
    → stays true (take (at + 1) bytes) ≡ true → stays_behind (take m (drop at bytes)) ≡ true
    → stays true (take (at + 32 + 1) bytes) ≡ true
stays-chunk bytes at m same within stay behind =
    let size : length (drop at bytes) ≡ length bytes - at = grind (arith, common_steps) in
    let whole : at + 32 + 1 ≡ at + suc 32 = omega arith in
    let chunk : stays_behind (take (suc 32) (drop at bytes)) ≡ true =
    ap (λ k. stays_behind (take k (drop at bytes))) (sym same) ∙ behind in
    let front : stays true (take at bytes ++ take 1 (drop at bytes)) ≡ true =
    ap (stays true) (sym (take-add at 1 bytes)) ∙ stay in
    rw (whole, take-add at (suc 32) bytes) (chunk-behind (take at bytes) (drop at bytes) 32 (omega arith) front chunk)

-- ---- a front of them
pub stays-all : (bytes : List ℕ) (n : ℕ) → n ≡ length bytes → stays true (take n bytes) ≡ true → stays true bytes ≡ true
stays-all bytes n e stay = ap (stays true) (sym (ap (λ k. take k bytes) e ∙ take-length bytes)) ∙ stay

pub stays-front : (bytes : List ℕ) (n : ℕ) → stays true bytes ≡ true → stays true (take n bytes) ≡ true
stays-front bytes n stay =
    left _ _ (sym (stays-append true (take n bytes) (drop n bytes)) ∙ ap (stays true) (take-append-drop n bytes) ∙ stay)

-- ---- what is due for them
abbrev empty : List ℕ → Bool
empty [] = true
empty (x ∷ xs) = false

nil-from_empty : (c : List ℕ) → empty c ≡ true → c ≡ []
nil-from_empty [] e = refl
nil-from_empty (x ∷ xs) e = absurd (true≢false (sym e))

not-empty : (c : List ℕ) (b : ℕ) → empty (c ++ (b ∷ [])) ≡ false
not-empty [] b = refl
not-empty (x ∷ xs) b = refl

abbrev Other : List ℕ → Type 0
Other l = eqb (get_or l 0 0) 95 ≡ false

first-behind : (c : List ℕ) (b : ℕ) → Other c → (empty c && eqb b 95) ≡ false → Other (c ++ (b ∷ []))
first-behind [] b other e = e
first-behind (x ∷ xs) b other e = other

first-front : (b e : List ℕ) → Other (b ++ e) → Other b
first-front [] e other = refl
first-front (x ∷ xs) e other = other

unasked : (o : FilterOptions) (l : List ℕ) → o.types ≡ false → Other l → is_asked o (body l) ≡ false
unasked o l types other =
    let first : Other (body l) = first-front (body l) (ending l) (rw (body-ending l) other) in
    rw (types, unnamed (body l) first, and-false _) refl

line-kept : (o : FilterOptions) (l : List ℕ) → o.types ≡ false → Other l → shown_line o l ≡ l
unfolding shown_line
line-kept o l types other =
    ap (λ b. b ++ ending l) (shown-kept o (body l) (unasked o l types other)) ∙ body-ending l

abbrev LineStays : FilterOptions → List ℕ → List ℕ → List ℕ → Type 0
LineStays o more c xs = due o (c ++ (xs ++ more)) ≡ c ++ (xs ++ due o more)

-- one more byte of a line whose front is `c`, or its line feed
due-step : (o : FilterOptions) (c : List ℕ) (b : ℕ) (bs more : List ℕ) (t : Bool) → eqb b 10 ≡ t
    → o.types ≡ false → before_feed c ≡ length c → Other c → (empty c && eqb b 95) ≡ false
    → stays t bs ≡ true → begins_line t bs ≡ true
    → ((d : List ℕ) → before_feed d ≡ length d → Other d → stays (empty d) bs ≡ true → begins_line (empty d) bs ≡ true
    → LineStays o more d bs)
    → LineStays o more c (b ∷ bs)
due-step o c b bs more true e types free other first stay ends ih =
    let ended : before_feed (b ∷ []) + 1 ≡ length (b ∷ []) = rw e refl in
    let line = c ++ (b ∷ []) in
    let kept : shown_line o line ≡ line = line-kept o line types (first-behind c b other first) in
    let rest : due o (bs ++ more) ≡ bs ++ due o more = ih [] refl refl stay ends in
    due-completed o c (b ∷ []) (bs ++ more) free ended
    ∙ ap (λ l. l ++ due o (bs ++ more)) kept
    ∙ ap (λ l. line ++ l) rest
    ∙ append_assoc c (b ∷ []) (bs ++ due o more)
due-step o c b bs more false e types free other first stay ends ih =
    let line = c ++ (b ∷ []) in
    let free' : before_feed line ≡ length line = free-append c (b ∷ []) line free (rw e refl) refl in
    let stay' : stays (empty line) bs ≡ true = rw (not-empty c b) stay in
    let ends' : begins_line (empty line) bs ≡ true = rw (not-empty c b) ends in
    ap (due o) (sym (append_assoc c (b ∷ []) (bs ++ more)))
    ∙ ih line free' (first-behind c b other first) stay' ends'
    ∙ append_assoc c (b ∷ []) (bs ++ due o more)

due-goes_on : (o : FilterOptions) (c xs more : List ℕ) → o.types ≡ false → before_feed c ≡ length c → Other c
    → stays (empty c) xs ≡ true → begins_line (empty c) xs ≡ true → LineStays o more c xs
unfolding stays begins_line
due-goes_on o c [] more types free other stay ends = rw (nil-from_empty c ends) refl
due-goes_on o c (b ∷ bs) more types free other stay ends =
    let first = not-true (empty c && eqb b 95) (left _ _ stay) in
    due-step o c b bs more (eqb b 10) refl types free other first (right _ _ stay) ends
    (λ d f g h k. due-goes_on o d bs more types f g h k)

ahead-stays : (o : FilterOptions) (gathered held lines more : List ℕ) → held ≡ [] → o.types ≡ false
    → stays true lines ≡ true → begins_line true lines ≡ true
    → ahead o gathered held (lines ++ more) ≡ (gathered ++ lines) ++ due o more
ahead-stays o gathered held lines more none types stay ends =
    rw none (ap (λ l. gathered ++ l) (due-goes_on o [] lines more types refl refl stay ends)
    ∙ sym (append_assoc gathered lines (due o more)))

pub moves-staying : (o : FilterOptions) (a b : Option (List ℕ)) (gathered after held lines : List ℕ) → held ≡ []
    → o.types ≡ false → stays true lines ≡ true → begins_line true lines ≡ true
    → Moves a b (gathered ++ lines) after → (more : List ℕ)
    → Moves a b (ahead o gathered held (lines ++ more)) (ahead o after held more)
moves-staying o a b gathered after held lines none types stay ends p more =
    rw (ahead-stays o gathered held lines more none types stay ends, none)
    (moves-more a b (gathered ++ lines) after (due o more) p)

pub begins-staying : (o : FilterOptions) (a b : Option (List ℕ)) (gathered held lines : List ℕ) → held ≡ []
    → o.types ≡ false → stays true lines ≡ true → begins_line true lines ≡ true
    → Begins a b (gathered ++ lines) → (more : List ℕ)
    → Begins a b (ahead o gathered held (lines ++ more))
begins-staying o a b gathered held lines none types stay ends p more =
    rw (ahead-stays o gathered held lines more none types stay ends)
    (begins-more a b (gathered ++ lines) (due o more) p)

-- ---- nothing is kept behind them
ended-step : (c : List ℕ) (b : ℕ) (bs : List ℕ) (t : Bool) → eqb b 10 ≡ t → begins_line t bs ≡ true
    → ((d : List ℕ) → begins_line (empty d) bs ≡ true → fold line_after d bs ≡ [])
    → fold line_after (line_after c b) bs ≡ []
ended-step c b bs true e ends ih = rw e (ih [] ends)
ended-step c b bs false e ends ih = rw e (ih (c ++ (b ∷ [])) (rw (not-empty c b) ends))

ended : (c xs : List ℕ) → begins_line (empty c) xs ≡ true → fold line_after c xs ≡ []
unfolding begins_line
ended c [] ends = nil-from_empty c ends
ended c (b ∷ bs) ends = ended-step c b bs (eqb b 10) refl ends (λ d e. ended d bs e)

pub kept-staying : (held seen front lines : List ℕ) → held ≡ [] → held ≡ unfinished (seen ++ front)
    → begins_line true lines ≡ true → held ≡ unfinished (seen ++ (front ++ lines))
unfolding unfinished
kept-staying held seen front lines none kept ends =
    let before' : fold line_after [] (seen ++ front) ≡ [] = sym kept ∙ none in
    let whole : fold line_after [] (seen ++ (front ++ lines)) ≡ [] =
    ap (fold line_after []) (sym (append_assoc seen front lines))
    ∙ fold-append line_after [] (seen ++ front) lines
    ∙ ap (λ d. fold line_after d lines) before' ∙ ended [] lines ends in
    none ∙ sym whole
