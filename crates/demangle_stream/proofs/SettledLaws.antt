-- Laws on what of a text is settled, and on the front of a run that waits as it goes on.
use Rattle.std.proofs.Common.{◌≡◌, ℕ, ◌-◌, ◌≤◌, ◌<◌, Bool, true, false, not, ◌&&◌, eqb, nat_le, List, cond}
use Rattle.std.proofs.Common.{[], ◌∷◌, ◌++◌, length, take, drop, get_or, refl, sym, ap, ◌∙◌, append-nil}
use Rattle.std.proofs.Common.{arith, rules, tests, length-append}
use Rattle.std.proofs.lemmas.Bool.{true≢false, not-true}
use Rattle.std.proofs.Math.Bool.{and-false}
use Rattle.std.proofs.lemmas.Grind.{common_steps}
use Rattle.std.proofs.lemmas.List.{append_cancel_right}
use Rattle.std.proofs.lemmas.List.Sums.{prefix_len_passes, suffix_len_is}
use Rattle.std.proofs.Math.Seq.{drop-append_seam, take-append_seam}
use Rattle.demangle_printing.specs.Outcome.{Options}
use Rattle.demangle_stream.specs.Fed.{Behind}
use Rattle.demangle_stream.specs.Replaced.{due_behind, replaced, rest}
use Rattle.demangle_stream.specs.Runs.{is_run_byte, tail_len}
use Rattle.demangle_stream.specs.Settled.{last_run, settled}
use Rattle.demangle_stream.specs.Shown.{may_wait, run_limit}
use Rattle.demangle_stream.specs.Staying.{starts}
use Rattle.demangle_stream.specs.declared.state.Stream.{Stream}
use Rattle.demangle_stream.proofs.PieceLaws.{IsRun, passed-other, replaced-cut, replaced-nil}
use Rattle.demangle_stream.proofs.StayLaws.{starts-at}

not-false : (b : Bool) → false ≡ not b → b ≡ true
not-false true e = refl
not-false false e = absurd (true≢false (sym e))

-- ---- the run at the end
get-behind : (front run : List ℕ) (k : ℕ) → length front ≤ k → get_or (front ++ run) k 0 ≡ get_or run (k - length front) 0
get-behind front run k from = grind (arith, common_steps)

tail-is : (front run : List ℕ) → starts true front ≡ true → IsRun run → tail_len (front ++ run) ≡ length run
tail-is front run ends is =
    let n = length front in
    let sizes = length-append front run in
    let within : n ≤ length (front ++ run) = omega arith in
    suffix_len_is is_run_byte (front ++ run) n 0 within
    (λ k from below.
    ap is_run_byte (get-behind front run k from)
    ∙ prefix_len_passes is_run_byte run (k - n) 0 (omega arith))
    (λ some.
    not-true _ (sym (starts-at (front ++ run) n within some)
    ∙ ap (starts true) (take-append_seam front run) ∙ ends))
    ∙ (let size : length (front ++ run) - n ≡ length run = omega arith in size)

front-size : (front run : List ℕ) → starts true front ≡ true → IsRun run
    → length (front ++ run) - tail_len (front ++ run) ≡ length front
front-size front run ends is =
    let sizes = length-append front run in
    let tail = tail-is front run ends is in
    omega arith

-- ---- what is settled
settled-is : (front run : List ℕ) → starts true front ≡ true → IsRun run
    → settled (front ++ run) ≡ cond (may_wait run) front (front ++ run)
unfolding settled
settled-is front run ends is =
    let size = front-size front run ends is in
    let last : last_run (front ++ run) ≡ run =
    ap (λ n. drop n (front ++ run)) size ∙ drop-append_seam front run in
    ap (λ l. cond (may_wait l) (take (length (front ++ run) - tail_len (front ++ run)) (front ++ run)) (front ++ run)) last
    ∙ ap (λ l. cond (may_wait run) l (front ++ run))
    (ap (λ n. take n (front ++ run)) size ∙ take-append_seam front run)

settled-all : (front run : List ℕ) → starts true front ≡ true → IsRun run → true ≡ not (may_wait run)
    → settled (front ++ run) ≡ front ++ run
settled-all front run ends is passes =
    settled-is front run ends is ∙ ap (λ t. cond t front (front ++ run)) (not-true (may_wait run) (sym passes))

settled-front : (front run : List ℕ) → starts true front ≡ true → IsRun run → false ≡ not (may_wait run)
    → settled (front ++ run) ≡ front
settled-front front run ends is waits =
    settled-is front run ends is ∙ ap (λ t. cond t front (front ++ run)) (not-false (may_wait run) waits)

pub settled-nil : settled [] ≡ []
unfolding starts
settled-nil = settled-is [] [] refl refl

-- what is due for a text is that for what is settled, and behind it what is due at the end
settled-due : (p : ℕ) (o : Options) (passing : Bool) (held front run : List ℕ) → starts true front ≡ true
    → IsRun run → passing ≡ not (may_wait run) → (passing ≡ false → held ≡ run)
    → replaced p o (front ++ run) ≡ replaced p o (settled (front ++ run)) ++ due_behind p o passing held []
settled-due p o true held front run ends is passes waits =
    let all = replaced p o (front ++ run) in
    rw (settled-all front run ends is passes)
    (sym (ap (λ l. all ++ l) (passed-other p o [] refl ∙ replaced-nil p o) ∙ append-nil all))
settled-due p o false held front run ends is passes waits =
    rw (settled-front front run ends is passes)
    (replaced-cut p o front run ends ∙ ap (λ l. replaced p o front ++ replaced p o l) (sym (append-nil held ∙ waits refl)))

-- what was given of a text, but for what is due at the end, is what is due for what is settled
pub settled-given : (p : ℕ) (o : Options) (s : Stream) (text given : List ℕ) → s.parse ≡ p → s.print ≡ o
    → Behind s text → replaced p o text ≡ given ++ rest s [] → given ≡ replaced p o (settled text)
settled-given p o s text given same-p same-o b e =
    let end = rest s [] in
    let tail : end ≡ due_behind p o s.passing s.held.items [] =
    ap (λ k. due_behind k s.print s.passing s.held.items []) same-p
    ∙ ap (λ k. due_behind p k s.passing s.held.items []) same-o in
    append_cancel_right given (replaced p o (settled text)) end
    (sym e ∙ ap (replaced p o) b.parts
    ∙ settled-due p o s.passing s.held.items b.front b.run b.ends b.is_run b.passed_on b.waits
    ∙ ap (λ l. replaced p o (settled (b.front ++ b.run)) ++ l) (sym tail)
    ∙ ap (λ l. replaced p o (settled l) ++ end) (sym b.parts))

-- ---- the front of a run, as it goes on
waits-by : (b : ℕ) (bs f : List ℕ) (t : Bool) → eqb b 95 ≡ t → (eqb b 95 && nat_le (length (b ∷ bs)) run_limit) ≡ false
    → (eqb b 95 && nat_le (length (b ∷ (bs ++ f))) run_limit) ≡ false
waits-by b bs f true e refuses =
    let far : nat_le (length (b ∷ bs)) run_limit ≡ false = rw e at refuses in
    let long : run_limit < length (b ∷ bs) = search (rules, tests) in
    let sizes = length-append bs f in
    let longer : run_limit < length (b ∷ (bs ++ f)) = omega arith in
    let further : nat_le (length (b ∷ (bs ++ f))) run_limit ≡ false = search (rules, tests) in
    rw (e, further) refl
waits-by b bs f false e refuses = rw e refl

-- one that stays
pub stays-longer : (r f : List ℕ) → may_wait r ≡ false → may_wait (r ++ f) ≡ false
stays-longer [] f refuses = absurd (true≢false refuses)
stays-longer (b ∷ bs) f refuses = waits-by b bs f (eqb b 95) refl refuses

-- one that is too long
pub waits-no_longer : (r : List ℕ) → run_limit < length r → may_wait r ≡ false
waits-no_longer [] long = absurd (omega arith)
waits-no_longer (b ∷ bs) long =
    let far : nat_le (length (b ∷ bs)) run_limit ≡ false = search (rules, tests) in
    rw (far, and-false (eqb b 95)) refl
