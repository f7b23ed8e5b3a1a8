-- Laws on the lines of an input: what is due once a line feed is seen, at the end, and for the lines that are complete.
use Rattle.std.proofs.Common.{eq-eqb, get_or, ◌≡◌, ℕ, suc, ◌+◌, ◌-◌, ◌<◌, ◌≤◌, Bool, true, false, cond, eqb, not, List}
use Rattle.std.proofs.Common.{[], ◌∷◌, ◌++◌, length, take, drop, refl, sym, ap, ◌∙◌, append_assoc, append-nil, fold}
use Rattle.std.proofs.Common.{arith}
use Rattle.std.proofs.Common.{length-append, length-take-le, take-append-drop}
use Rattle.std.proofs.lemmas.Grind.{common_steps}
use Rattle.std.proofs.lemmas.List.Folds.{prefix_len-append}
use Rattle.std.proofs.lemmas.List.Sums.{fold-append}
use Rattle.std.proofs.Math.Seq.{take-append-add, drop-append-add, take-length, take-append_seam}
use Rattle.demangle_printing.specs.Outcome.{outcome}
use Rattle.cppfilt_lines.specs.declared.options.FilterOptions.{FilterOptions}
use Rattle.cppfilt_lines.specs.Lines.{before_feed, lines, onto_first, body, ending, without_last, line_after}
use Rattle.cppfilt_lines.specs.Lines.{unfinished, complete}
use Rattle.cppfilt_lines.specs.Shown.{is_asked, answered, shown}
use Rattle.cppfilt_lines.specs.Due.{shown_line, due}

pub lines-at : (b : ℕ) (bs : List ℕ) → lines (b ∷ bs) ≡ cond (eqb b 10) ((b ∷ []) ∷ lines bs) (onto_first b (lines bs))
unfolding lines
lines-at b bs = refl

lines-nil : lines [] ≡ []
unfolding lines
lines-nil = refl

abbrev First : List ℕ → Type 0
First x = before_feed x < length x → lines x ≡ take (before_feed x + 1) x ∷ lines (drop (before_feed x + 1) x)

take-one-more : (n b : ℕ) (bs : List ℕ) → take (1 + n + 1) (b ∷ bs) ≡ b ∷ take (n + 1) bs
take-one-more n b bs = let e : 1 + n + 1 ≡ suc (n + 1) = omega arith in rw e refl

drop-one-more : (n b : ℕ) (bs : List ℕ) → drop (1 + n + 1) (b ∷ bs) ≡ drop (n + 1) bs
drop-one-more n b bs = let e : 1 + n + 1 ≡ suc (n + 1) = omega arith in rw e refl

first-step : (b : ℕ) (bs : List ℕ) (t : Bool) → eqb b 10 ≡ t → First bs → First (b ∷ bs)
first-step b bs true e ih h = rw (lines-at b bs, e) refl
first-step b bs false e ih h =
    let small : before_feed bs < length bs = (let h' = rw e at h in omega arith) in
    rw (lines-at b bs, e, take-one-more, drop-one-more, ih small) refl

-- the first line, through its line feed, and the lines behind it
pub lines-first : (x : List ℕ) → First x
lines-first [] h = absurd (omega arith)
lines-first (b ∷ bs) h = first-step b bs (eqb b 10) refl (lines-first bs) h

-- the bytes through the first line feed have it as their last
Ended : List ℕ → Type 0
Ended x = before_feed x < length x → before_feed (take (before_feed x + 1) x) ≡ before_feed x

ended-step : (b : ℕ) (bs : List ℕ) (t : Bool) → eqb b 10 ≡ t → Ended bs → Ended (b ∷ bs)
unfolding Ended
ended-step b bs true e ih h = rw (e, e) refl
ended-step b bs false e ih h =
    let small : before_feed bs < length bs = (let h' = rw e at h in omega arith) in
    rw (e, take-one-more, e, ih small) refl

ended-at : (x : List ℕ) → Ended x
unfolding Ended
ended-at [] h = absurd (omega arith)
ended-at (b ∷ bs) h = ended-step b bs (eqb b 10) refl (ended-at bs) h

pub first-ended : (x : List ℕ) → before_feed x < length x
    → before_feed (take (before_feed x + 1) x) + 1 ≡ length (take (before_feed x + 1) x)
unfolding Ended
first-ended x h = rw (ended-at x h, length-take-le (before_feed x + 1) x (omega arith)) refl

-- the same of what is due
pub due-first : (o : FilterOptions) (x : List ℕ) → before_feed x < length x
    → due o x ≡ shown_line o (take (before_feed x + 1) x) ++ due o (drop (before_feed x + 1) x)
unfolding due
due-first o x h = rw (lines-first x h) refl

pub due-nil : (o : FilterOptions) → due o [] ≡ []
unfolding due lines
due-nil o = refl

-- bytes without a line feed are one line
Last : List ℕ → Type 0
Last x = before_feed x ≡ length x → 0 < length x → lines x ≡ x ∷ []

last-step : (b : ℕ) (bs : List ℕ) (t : Bool) → eqb b 10 ≡ t → Last bs → Last (b ∷ bs)
unfolding Last
last-step b bs true e ih free some = absurd (let f = rw e at free in omega arith)
last-step b [] false e ih free some = rw (lines-at b [], e, lines-nil) refl
last-step b (c ∷ cs) false e ih free some =
    let free' : before_feed (c ∷ cs) ≡ length (c ∷ cs) = (let f = rw e at free in omega arith) in
    rw (lines-at b (c ∷ cs), e, ih free' (omega arith)) refl

lines-last : (x : List ℕ) → Last x
unfolding Last
lines-last [] free some = absurd (omega arith)
lines-last (b ∷ bs) free some = last-step b bs (eqb b 10) refl (lines-last bs) free some

pub due-last : (o : FilterOptions) (x : List ℕ) → before_feed x ≡ length x → 0 < length x → due o x ≡ shown_line o x
unfolding due Last
due-last o x free some = rw (lines-last x free some, append-nil) refl

-- the first line feed behind bytes without one
pub before_feed-append : (held x : List ℕ) → before_feed held ≡ length held
    → before_feed (held ++ x) ≡ length held + before_feed x
before_feed-append held x free =
    let e = prefix_len-append (λ b. not (eqb b 10)) held x in
    rw (e, free, eq-eqb (length held) (length held) refl) refl

-- what is due for bytes held without a line feed, once the next one is seen
pub due-held : (o : FilterOptions) (held x : List ℕ) → before_feed held ≡ length held → before_feed x < length x
    → due o (held ++ x) ≡ shown_line o (held ++ take (before_feed x + 1) x) ++ due o (drop (before_feed x + 1) x)
due-held o held x free seen =
    let at = before_feed-append held x free in
    let n = before_feed x in
    let within : before_feed (held ++ x) < length (held ++ x) = rw (at, length-append) (omega arith) in
    let next : length held + n + 1 ≡ length held + (n + 1) = omega arith in
    rw (due-first o (held ++ x) within, at, next, take-append-add, drop-append-add) refl

-- ---- a line's bytes and its ending
-- a list is the front of another
IsFront : List ℕ → List ℕ → Type 0
IsFront a l = take (length a) l ≡ a

take-take : (m n : ℕ) (l : List ℕ) → m ≤ n → take m (take n l) ≡ take m l
take-take m n l h = grind (arith, common_steps)

front-take : (n : ℕ) (l : List ℕ) → n ≤ length l → IsFront (take n l) l
unfolding IsFront
front-take n l h = rw (length-take-le n l h) refl

front-trans : (a b c : List ℕ) → length a ≤ length b → IsFront a b → IsFront b c → IsFront a c
unfolding IsFront
front-trans a b c le p q = sym (take-take (length a) (length b) c le) ∙ ap (take (length a)) q ∙ p

front-joins : (a l : List ℕ) → IsFront a l → a ++ drop (length a) l ≡ l
unfolding IsFront
front-joins a l p = ap (λ z. z ++ drop (length a) l) (sym p) ∙ take-append-drop (length a) l

front-without' : (t : Bool) (l : List ℕ) → IsFront (cond t (take (length l - 1) l) l) l
unfolding IsFront
front-without' true l = front-take (length l - 1) l (omega arith)
front-without' false l = take-length l

length-without' : (t : Bool) (l : List ℕ) → length (cond t (take (length l - 1) l) l) ≤ length l
length-without' true l = rw (length-take-le (length l - 1) l (omega arith)) (omega arith)
length-without' false l = omega arith

without-length : (b : ℕ) (l : List ℕ) → length (without_last b l) ≤ length l
without-length b l = length-without' (eqb (get_or l (length l - 1) 0) b) l

without-front : (b : ℕ) (l : List ℕ) → IsFront (without_last b l) l
without-front b l = front-without' (eqb (get_or l (length l - 1) 0) b) l

-- a line is its bytes and its ending
pub body-ending : (l : List ℕ) → body l ++ ending l ≡ l
body-ending l =
    let shorter = without-length 13 (without_last 10 l) in
    let front = front-trans (body l) (without_last 10 l) l shorter (without-front 13 (without_last 10 l))
    (without-front 10 l) in
    front-joins (body l) l front

-- ---- what a line's bytes become
pub shown-kept : (o : FilterOptions) (b : List ℕ) → is_asked o b ≡ false → shown o b ≡ b
unfolding shown
shown-kept o b h = rw h refl

pub shown-asked : (o : FilterOptions) (b : List ℕ) → is_asked o b ≡ true
    → shown o b ≡ answered o b (outcome o.parse o.print b)
unfolding shown
shown-asked o b h = rw h refl

-- ---- a line that isn't complete
-- behind bytes without a line feed it goes on
abbrev GoesOn : List ℕ → Type 0
GoesOn x = (line : List ℕ) → before_feed x ≡ length x → fold line_after line x ≡ line ++ x

goes_on-step : (b : ℕ) (bs : List ℕ) (t : Bool) → eqb b 10 ≡ t → GoesOn bs → GoesOn (b ∷ bs)
goes_on-step b bs true e ih line free = absurd (let f = rw e at free in omega arith)
goes_on-step b bs false e ih line free =
    let free' : before_feed bs ≡ length bs = (let f = rw e at free in omega arith) in
    rw e (ih (line ++ b ∷ []) free' ∙ append_assoc line (b ∷ []) bs)

goes_on : (x : List ℕ) → GoesOn x
goes_on [] line free = sym (append-nil line)
goes_on (b ∷ bs) line free = goes_on-step b bs (eqb b 10) refl (goes_on bs) line free

pub unfinished-goes_on : (x front : List ℕ) → before_feed front ≡ length front
    → unfinished (x ++ front) ≡ unfinished x ++ front
unfolding unfinished
unfinished-goes_on x front free = fold-append line_after [] x front ∙ goes_on front (fold line_after [] x) free

-- behind a line feed nothing is left of it
abbrev Closes : List ℕ → Type 0
Closes x = (line : List ℕ) → before_feed x + 1 ≡ length x → fold line_after line x ≡ []

closes-step : (b : ℕ) (bs : List ℕ) (t : Bool) → eqb b 10 ≡ t → Closes bs → Closes (b ∷ bs)
closes-step b [] true e ih line ended = rw e refl
closes-step b (c ∷ cs) true e ih line ended = absurd (let f = rw e at ended in omega arith)
closes-step b bs false e ih line ended =
    let ended' : before_feed bs + 1 ≡ length bs = (let f = rw e at ended in omega arith) in
    rw e (ih (line ++ b ∷ []) ended')

closes : (x : List ℕ) → Closes x
closes [] line ended = absurd (omega arith)
closes (b ∷ bs) line ended = closes-step b bs (eqb b 10) refl (closes bs) line ended

pub unfinished-closes : (x line : List ℕ) → before_feed line + 1 ≡ length line → unfinished (x ++ line) ≡ []
unfolding unfinished
unfinished-closes x line ended = fold-append line_after [] x line ∙ closes line (fold line_after [] x) ended

pub unfinished-nil : unfinished [] ≡ []
unfolding unfinished
unfinished-nil = refl

-- an input is its complete lines and the line that isn't complete
record Parts (o : FilterOptions) (x rest : List ℕ) : Type 0 where
  whole : List ℕ
  joins : x ≡ whole ++ rest
  due_parts : due o x ≡ due o whole ++ due o rest
  free : before_feed rest ≡ length rest

HasParts : FilterOptions → List ℕ → Type 0
HasParts o x = (line : List ℕ) → before_feed line ≡ length line → Parts o (line ++ x) (fold line_after line x)

parts-step : (o : FilterOptions) (b : ℕ) (bs : List ℕ) (t : Bool) → eqb b 10 ≡ t → HasParts o bs → HasParts o (b ∷ bs)
unfolding HasParts
parts-step o b bs true e ih line free =
    let p = ih [] refl in
    let none : before_feed (b ∷ bs) ≡ 0 = rw e refl in
    let none' : before_feed (b ∷ p.whole) ≡ 0 = rw e refl in
    rw e record {
      whole = line ++ b ∷ p.whole;
      joins = ap (λ l. line ++ b ∷ l) p.joins ∙ sym (append_assoc line (b ∷ p.whole) (fold line_after [] bs));
      due_parts = rw (
        due-held o line (b ∷ bs) free (omega arith),
        due-held o line (b ∷ p.whole) free (omega arith),
        none,
        none',
        p.due_parts,
      )
          (sym (append_assoc (shown_line o (line ++ b ∷ [])) (due o p.whole) (due o (fold line_after [] bs))));
      free = p.free;
    }
parts-step o b bs false e ih line free =
    let one : before_feed (b ∷ []) ≡ 1 = rw e refl in
    let free' : before_feed (line ++ b ∷ []) ≡ length (line ++ b ∷ []) =
    rw (before_feed-append line (b ∷ []) free, one, length-append) refl in
    rw (e, ← append_assoc line (b ∷ []) bs) (ih (line ++ b ∷ []) free')

parts : (o : FilterOptions) (x : List ℕ) → HasParts o x
unfolding HasParts
parts o [] line free =
    record { whole = []; joins = append-nil line; due_parts = rw (append-nil line, due-nil o) refl; free = free }
parts o (b ∷ bs) line free = parts-step o b bs (eqb b 10) refl (parts o bs) line free

complete-whole : (whole rest x : List ℕ) → x ≡ whole ++ rest → take (length x - length rest) x ≡ whole
complete-whole whole rest x e =
    let n : length (whole ++ rest) - length rest ≡ length whole = (let l = length-append whole rest in omega arith) in
    rw (e, n) (take-append_seam whole rest)

pub due-parts : (o : FilterOptions) (x : List ℕ) → due o x ≡ due o (complete x) ++ due o (unfinished x)
unfolding unfinished HasParts
due-parts o x = let p = parts o x [] refl in rw (complete-whole p.whole (fold line_after [] x) x p.joins) p.due_parts

pub complete-nil : complete [] ≡ []
unfolding unfinished
complete-nil = refl
