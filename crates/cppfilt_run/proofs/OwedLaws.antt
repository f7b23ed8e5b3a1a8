-- Laws on what is owed behind a line that isn't complete, and on what a sink was given of it, whatever comes behind.
use Rattle.std.proofs.Common.{◌≡◌, ℕ, ◌+◌, ◌<◌, ◌≤◌, false, eqb, not, List, [], ◌∷◌, ◌++◌, length, take, drop, refl}
use Rattle.std.proofs.Common.{sym, ap}
use Rattle.std.proofs.Common.{◌∙◌, append_assoc, append-nil, arith, rules, tests, length-append, take-append-drop}
use Rattle.std.proofs.Common.{Result}
use Rattle.std.specs.Prelude.{Option}
use Rattle.std.proofs.lemmas.List.Folds.{prefix_len-append}
use Rattle.std.proofs.Math.Seq.{take-append_seam, drop-append_seam}
use Rattle.std.specs.Result.{IsErrAnd}
use Rattle.demangle_context.specs.declared.error.SinkFault.{SinkFault}
use Rattle.demangle_context.specs.declared.error.SinkFault.TheVariants as fault
use Rattle.cppfilt_ends.specs.Moves.{Moves, Begins, Gives}
use Rattle.cppfilt_ends.proofs.MoveLaws.{moves-more, begins, begins-more, begins-then, moves-then, flushed}
use Rattle.cppfilt_ends.proofs.MoveLaws.{gives-more, refusal}
use Rattle.cppfilt_lines.specs.Due.{due, shown_line}
use Rattle.cppfilt_lines.specs.Lines.{before_feed, unfinished}
use Rattle.cppfilt_lines.specs.declared.options.FilterOptions.{FilterOptions}
use Rattle.cppfilt_lines.proofs.LineLaws.{first-ended, due-held, due-nil, before_feed-append}
use Rattle.cppfilt_lines.proofs.LineLaws.{unfinished-goes_on, unfinished-closes}
use Rattle.cppfilt_run.specs.Owed.{ahead}

-- ---- a line that is complete
before_feed-ended : (line more : List ℕ) → before_feed line + 1 ≡ length line
    → before_feed (line ++ more) ≡ before_feed line
before_feed-ended line more ended =
    let e = prefix_len-append (λ b. not (eqb b 10)) line more in
    let other : eqb (before_feed line) (length line) ≡ false = search (rules, tests) in
    rw (e, other) refl

pub due-completed : (o : FilterOptions) (held line more : List ℕ) → before_feed held ≡ length held
    → before_feed line + 1 ≡ length line
    → due o (held ++ (line ++ more)) ≡ shown_line o (held ++ line) ++ due o more
due-completed o held line more free ended =
    let at = before_feed-ended line more ended in
    let seen : before_feed (line ++ more) < length (line ++ more) = rw (at, length-append) (omega arith) in
    rw (due-held o held (line ++ more) free seen, at, ended, take-append_seam, drop-append_seam) refl

ahead-completed : (o : FilterOptions) (gathered held line more : List ℕ) → before_feed held ≡ length held
    → before_feed line + 1 ≡ length line
    → ahead o gathered held (line ++ more) ≡ (gathered ++ shown_line o (held ++ line)) ++ due o more
ahead-completed o gathered held line more free ended =
    ap (λ l. gathered ++ l) (due-completed o held line more free ended)
    ∙ sym (append_assoc gathered (shown_line o (held ++ line)) (due o more))

-- whatever its call answers
pub gives-completed : {T : Type 0} (o : FilterOptions) (a b : Option (List ℕ)) (w0 w1 : ℕ) (r : Result T SinkFault)
    (gathered after held line : List ℕ) → held ≡ [] → before_feed line + 1 ≡ length line
    → Gives a b w0 w1 r (gathered ++ shown_line o line) after → (more : List ℕ)
    → Gives a b w0 w1 r (ahead o gathered held (line ++ more)) (ahead o after held more)
gives-completed o a b w0 w1 r gathered after held line none ended g more =
    rw (none, ahead-completed o gathered [] line more refl ended)
    (gives-more a b w0 w1 r (gathered ++ shown_line o line) after (due o more) g)

pub moves-completed : (o : FilterOptions) (a b : Option (List ℕ)) (gathered after held line now : List ℕ)
    → before_feed held ≡ length held → before_feed line + 1 ≡ length line
    → Moves a b (gathered ++ shown_line o (held ++ line)) after → now ≡ [] → (more : List ℕ)
    → Moves a b (ahead o gathered held (line ++ more)) (ahead o after now more)
moves-completed o a b gathered after held line now free ended p none more =
    rw (none, ahead-completed o gathered held line more free ended)
    (moves-more a b (gathered ++ shown_line o (held ++ line)) after (due o more) p)

pub begins-completed : (o : FilterOptions) (a b : Option (List ℕ)) (gathered held line : List ℕ)
    → before_feed held ≡ length held → before_feed line + 1 ≡ length line
    → Begins a b (gathered ++ shown_line o (held ++ line)) → (more : List ℕ)
    → Begins a b (ahead o gathered held (line ++ more))
begins-completed o a b gathered held line free ended p more =
    rw (ahead-completed o gathered held line more free ended)
    (begins-more a b (gathered ++ shown_line o (held ++ line)) (due o more) p)

-- ---- the front of a line
-- bytes without a line feed behind others without one
pub free-append : (held front now : List ℕ) → before_feed held ≡ length held → before_feed front ≡ length front
    → now ≡ held ++ front → before_feed now ≡ length now
free-append held front now free unended is =
    rw (is, before_feed-append held front free, unended, length-append) refl

-- they are held
pub moves-held : (o : FilterOptions) (a b : Option (List ℕ)) (first : List ℕ → List ℕ)
    (gathered held front now : List ℕ)
    → ((more : List ℕ) → Moves a b (first more) (ahead o gathered held (front ++ more)))
    → now ≡ held ++ front → (more : List ℕ) → Moves a b (first more) (ahead o gathered now more)
moves-held o a b first gathered held front now p is more = rw (is, append_assoc held front more) (p more)

-- or there is no room for them
pub begins-held : {T : Type 0} (o : FilterOptions) (a b : Option (List ℕ)) (w0 w1 : ℕ) (r : Result T SinkFault)
    (first : List ℕ → List ℕ) (gathered held front after : List ℕ)
    → ((more : List ℕ) → Moves a b (first more) (ahead o gathered held (front ++ more))) → w1 ≡ w0
    → IsErrAnd r (λ e. e ≡ fault.OutOfMemory) → (more : List ℕ) → Gives a b w0 w1 r (first more) after
begins-held o a b w0 w1 r first gathered held front after p same is more =
    refusal a b w0 w1 r fault.OutOfMemory (first more) after is
    (same, begins a b (first more) (ahead o gathered held (front ++ more)) (p more))

pub free-nothing : (held : List ℕ) → held ≡ [] → before_feed held ≡ length held
free-nothing held none = rw none refl

-- ---- what is kept of the bytes that have come
-- behind a line feed nothing is
pub kept-closed : (seen front line now : List ℕ) → before_feed line + 1 ≡ length line → now ≡ []
    → now ≡ unfinished (seen ++ (front ++ line))
kept-closed seen front line now ended none =
    none ∙ sym (unfinished-closes (seen ++ front) line ended) ∙ ap unfinished (append_assoc seen front line)

-- the front of a line is, behind what was kept
pub kept-front : (held seen front rest now : List ℕ) → before_feed rest ≡ length rest → now ≡ held ++ rest
    → held ≡ unfinished (seen ++ front) → now ≡ unfinished (seen ++ (front ++ rest))
kept-front held seen front rest now free is kept =
    is ∙ ap (λ l. l ++ rest) kept ∙ sym (unfinished-goes_on (seen ++ front) rest free)
    ∙ ap unfinished (append_assoc seen front rest)

-- ---- one line after another
-- the first line of what is left, after those before it
rest-apart : (rest line after more : List ℕ) → line ++ after ≡ rest → rest ++ more ≡ line ++ (after ++ more)
rest-apart rest line after more e = sym (ap (λ l. l ++ more) e) ∙ append_assoc line after more

pub moves-line : (a b c : Option (List ℕ)) (first mid last : List ℕ → List ℕ) (rest line after : List ℕ)
    → line ++ after ≡ rest → ((more : List ℕ) → Moves a b (first more) (mid (rest ++ more)))
    → ((more : List ℕ) → Moves b c (mid (line ++ more)) (last more))
    → (more : List ℕ) → Moves a c (first more) (last (after ++ more))
moves-line a b c first mid last rest line after e p q more =
    let before : Moves a b (first more) (mid (line ++ (after ++ more))) =
    rw (← rest-apart rest line after more e) (p more) in
    moves-then a b c (first more) (mid (line ++ (after ++ more))) (last (after ++ more)) before (q (after ++ more))

pub begins-line : (a b c : Option (List ℕ)) (first mid : List ℕ → List ℕ) (rest line after : List ℕ)
    → line ++ after ≡ rest → ((more : List ℕ) → Moves a b (first more) (mid (rest ++ more)))
    → ((more : List ℕ) → Begins b c (mid (line ++ more))) → (more : List ℕ) → Begins a c (first more)
begins-line a b c first mid rest line after e p q more =
    let before : Moves a b (first more) (mid (line ++ (after ++ more))) =
    rw (← rest-apart rest line after more e) (p more) in
    begins-then a b c (first more) (mid (line ++ (after ++ more))) before (q (after ++ more))

-- a line as code finds it ends with its line feed
pub line-ended : (rest line : List ℕ) (end : ℕ) → before_feed rest + 1 ≡ end → end ≤ length rest
    → line ≡ take end rest → before_feed line + 1 ≡ length line
line-ended rest line end at within cut = rw (cut, ← at) (first-ended rest (omega arith))

pub cut-joins : (rest line after : List ℕ) (end : ℕ) → line ≡ take end rest → after ≡ drop end rest
    → line ++ after ≡ rest
cut-joins rest line after end p q = rw (p, q) (take-append-drop end rest)

-- ---- what was gathered is written
pub moves-flushed : (o : FilterOptions) (a b c : Option (List ℕ)) (first : List ℕ → List ℕ)
    (gathered after held : List ℕ) → ((more : List ℕ) → Moves a b (first more) (ahead o gathered held more))
    → Moves b c gathered [] → after ≡ [] → (more : List ℕ) → Moves a c (first more) (ahead o after held more)
moves-flushed o a b c first gathered after held p q none more =
    let behind = due o (held ++ more) in
    rw none (moves-then a b c (first more) (gathered ++ behind) behind (p more) (flushed b c gathered behind q))

pub begins-flushed : (o : FilterOptions) (a b c : Option (List ℕ)) (first : List ℕ → List ℕ)
    (gathered held : List ℕ) → ((more : List ℕ) → Moves a b (first more) (ahead o gathered held more))
    → Begins b c gathered → (more : List ℕ) → Begins a c (first more)
begins-flushed o a b c first gathered held p q more =
    let behind = due o (held ++ more) in
    begins-then a b c (first more) (gathered ++ behind) (p more) (begins-more b c gathered behind q)

-- ---- the end of the input
pub nil-from_length : (l : List ℕ) → length l ≡ 0 → l ≡ []
nil-from_length [] e = refl
nil-from_length (b ∷ bs) e = absurd (omega arith)

pub due-nothing : (o : FilterOptions) (gathered held : List ℕ) → held ≡ [] → gathered ++ due o held ≡ gathered
due-nothing o gathered held none = rw (none, due-nil o, append-nil) refl
