-- Laws on bytes that are looked at together.
use Rattle.std.proofs.Common.{◌≡◌, ℕ, ◌+◌, ◌≤◌, Bool, true, false, ◌||◌, eqb, List, [], ◌∷◌, length, take, drop, refl}
use Rattle.std.proofs.Common.{sym, ap, ◌∙◌, arith, fold, take-append-drop}
use Rattle.std.proofs.lemmas.Bool.{true≢false}
use Rattle.std.proofs.lemmas.Grind.{common_steps}
use Rattle.cppfilt_lines.specs.Lines.{before_feed}
use Rattle.cppfilt_lines.proofs.LineLaws.{before_feed-append}

abbrev look : Bool → ℕ → Bool
look seen byte = seen || eqb byte 10

seen-stays : (bytes : List ℕ) → fold look true bytes ≡ true
seen-stays [] = refl
seen-stays (b ∷ bs) = seen-stays bs

clear-step : (b : ℕ) (bs : List ℕ) (t : Bool) → eqb b 10 ≡ t → fold look t bs ≡ false
    → (fold look false bs ≡ false → before_feed bs ≡ length bs) → before_feed (b ∷ bs) ≡ length (b ∷ bs)
clear-step b bs true e clear ih = absurd (true≢false (sym (seen-stays bs) ∙ clear))
clear-step b bs false e clear ih = let h = ih clear in rw e (omega arith)

-- bytes none of which is a line feed
pub clear-bytes : (bytes : List ℕ) → fold look false bytes ≡ false → before_feed bytes ≡ length bytes
clear-bytes [] clear = refl
clear-bytes (b ∷ bs) clear = clear-step b bs (eqb b 10) refl clear (clear-bytes bs)

-- one more chunk of them
pub clear-more : (bytes : List ℕ) (n k m : ℕ) → m ≡ k → n + k ≤ length bytes
    → before_feed bytes ≡ n + before_feed (drop n bytes) → fold look false (take m (drop n bytes)) ≡ false
    → before_feed bytes ≡ (n + k) + before_feed (drop (n + k) bytes)
clear-more bytes n k m same within so_far clear' =
    let clear : fold look false (take k (drop n bytes)) ≡ false =
    ap (λ j. fold look false (take j (drop n bytes))) (sym same) ∙ clear' in
    let chunk = take k (drop n bytes) in
    let size : length chunk ≡ k = grind (arith, common_steps) in
    let rest : drop k (drop n bytes) ≡ drop (n + k) bytes = grind (arith, common_steps) in
    let whole = ap before_feed (sym (take-append-drop k (drop n bytes)))
    ∙ before_feed-append chunk (drop k (drop n bytes)) (clear-bytes chunk clear) in
    let behind = ap before_feed rest in
    omega arith
