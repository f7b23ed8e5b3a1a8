-- The laws of what is due for an input.
use Rattle.std.proofs.Common.{◌≡◌, ◌⊎◌, inl, inr, ℕ, zero, suc, ◌-◌, ◌<◌, Bool, true, false, eqb, get_or}
use Rattle.std.proofs.Common.{List, [], ◌∷◌, ◌++◌, length, take, drop, refl, sym, ap, ◌∙◌, append_assoc, append-nil, arith}
use Rattle.std.proofs.lemmas.Bool.{eqb-true}
use Rattle.std.proofs.lemmas.Grind.{flat_map-append}
use Rattle.std.proofs.lemmas.List.Elements.{All-head, All-tail}
use Rattle.std.proofs.Math.Seq.{drop-append_seam}
use Rattle.std.specs.Prelude.{flat_map}
use Rattle.std.specs.List.{All}
use Rattle.cppfilt_lines.specs.Due.{due, shown_line}
use Rattle.cppfilt_lines.specs.Laws.{LinesJoin, IsEnding, EndingsStay, UnaskedLineStays, UnaskedStays}
use Rattle.cppfilt_lines.specs.Laws.{DueJoins}
use Rattle.cppfilt_lines.specs.Lines.{lines, onto_first, body, ending, without_last}
use Rattle.cppfilt_lines.specs.Shown.{is_asked}
use Rattle.cppfilt_lines.specs.declared.options.FilterOptions.{FilterOptions}
use Rattle.cppfilt_lines.proofs.LineLaws.{lines-at, body-ending, shown-kept}

-- ---- the lines joined
joined : List (List ℕ) → List ℕ
joined ls = flat_map (λ line. line) ls

joined-onto : (b : ℕ) (ls : List (List ℕ)) → joined (onto_first b ls) ≡ b ∷ joined ls
unfolding joined
joined-onto b [] = refl
joined-onto b (l ∷ ls) = refl

joined-step : (b : ℕ) (bs : List ℕ) (t : Bool) → eqb b 10 ≡ t → joined (lines bs) ≡ bs
    → joined (lines (b ∷ bs)) ≡ b ∷ bs
unfolding joined
joined-step b bs true e ih = rw (lines-at b bs, e) (ap (λ l. b ∷ l) ih)
joined-step b bs false e ih = rw (lines-at b bs, e) (joined-onto b (lines bs) ∙ ap (λ l. b ∷ l) ih)

pub lines_join : LinesJoin
unfolding joined lines
lines_join [] = refl
lines_join (b ∷ bs) = joined-step b bs (eqb b 10) refl (lines_join bs)

-- ---- endings
last-at : (n : ℕ) (l : List ℕ) (d : ℕ) → length l ≡ suc n → take n l ++ get_or l n d ∷ [] ≡ l
last-at n [] d e = absurd (omega arith)
last-at zero (x ∷ []) d e = refl
last-at zero (x ∷ y ∷ ys) d e = absurd (omega arith)
last-at (suc n) (x ∷ xs) d e = ap (λ l. x ∷ l) (last-at n xs d (omega arith))

last-of : (l : List ℕ) (d : ℕ) → 0 < length l → take (length l - 1) l ++ get_or l (length l - 1) d ∷ [] ≡ l
last-of l d some = last-at (length l - 1) l d (omega arith)

-- without its last byte a list is as it was, or it ended with that byte
Cut : ℕ → List ℕ → Type 0
Cut b l = (without_last b l ≡ l) ⊎ (without_last b l ++ b ∷ [] ≡ l)

cut-by : (b : ℕ) (l : List ℕ) (t : Bool) → eqb (get_or l (length l - 1) 0) b ≡ t → 0 < length l → Cut b l
unfolding Cut
cut-by b l true e some =
    inr (rw e (ap (λ c. take (length l - 1) l ++ c ∷ []) (sym (eqb-true (get_or l (length l - 1) 0) b e))
    ∙ last-of l 0 some))
cut-by b l false e some = inl (rw e refl)

cut-10 : (l : List ℕ) → Cut 10 l
unfolding Cut
cut-10 [] = inl refl
cut-10 (x ∷ xs) = cut-by 10 (x ∷ xs) (eqb (get_or (x ∷ xs) (length (x ∷ xs) - 1) 0) 10) refl (omega arith)

cut-13 : (l : List ℕ) → Cut 13 l
unfolding Cut
cut-13 [] = inl refl
cut-13 (x ∷ xs) = cut-by 13 (x ∷ xs) (eqb (get_or (x ∷ xs) (length (x ∷ xs) - 1) 0) 13) refl (omega arith)

-- what stands behind a line's bytes is its ending
behind : (l e : List ℕ) → body l ++ e ≡ l → ending l ≡ e
behind l e p = ap (drop (length (body l))) (sym p) ∙ drop-append_seam (body l) e

ends-with : (l : List ℕ) → Cut 10 l → Cut 13 (without_last 10 l) → IsEnding (ending l)
unfolding Cut
ends-with l (inl a) (inl b) = inl (inl (behind l [] (append-nil (body l) ∙ b ∙ a)))
ends-with l (inl a) (inr b) = inr (inl (behind l (13 ∷ []) (b ∙ a)))
ends-with l (inr a) (inl b) = inl (inr (behind l (10 ∷ []) (ap (λ x. x ++ 10 ∷ []) b ∙ a)))
ends-with l (inr a) (inr b) =
    inr (inr (behind l (13 ∷ 10 ∷ [])
    (sym (append_assoc (body l) (13 ∷ []) (10 ∷ [])) ∙ ap (λ x. x ++ 10 ∷ []) b ∙ a)))

pub endings_stay : EndingsStay
unfolding shown_line
endings_stay o l = ((sym (body-ending l), ends-with l (cut-10 l) (cut-13 (without_last 10 l))), refl)

-- ---- lines that aren't asked
pub unasked_line_stays : UnaskedLineStays
unfolding shown_line
unasked_line_stays o l e = ap (λ x. x ++ ending l) (shown-kept o (body l) e) ∙ body-ending l

unasked-all : (o : FilterOptions) (ls : List (List ℕ)) → All (λ l. is_asked o (body l) ≡ false) ls
    → flat_map (shown_line o) ls ≡ joined ls
unfolding joined
unasked-all o [] h = refl
unasked-all o (l ∷ ls) h =
    ap (λ x. x ++ flat_map (shown_line o) ls)
    (unasked_line_stays o l (All-head (λ l. is_asked o (body l) ≡ false) l ls h))
    ∙ ap (λ x. l ++ x) (unasked-all o ls (All-tail (λ l. is_asked o (body l) ≡ false) l ls h))

pub unasked_stays : UnaskedStays
unfolding due joined
unasked_stays o input h = unasked-all o (lines input) h ∙ lines_join input

-- ---- two inputs
Split : List ℕ → List ℕ → Type 0
Split x y = (0 < length (lines (x ++ 10 ∷ [])))
    × (lines ((x ++ 10 ∷ []) ++ y) ≡ lines (x ++ 10 ∷ []) ++ lines y)

onto-append : (b : ℕ) (ls ms : List (List ℕ)) → 0 < length ls → onto_first b (ls ++ ms) ≡ onto_first b ls ++ ms
onto-append b [] ms some = absurd (omega arith)
onto-append b (l ∷ ls) ms some = refl

onto-some : (b : ℕ) (ls : List (List ℕ)) → 0 < length (onto_first b ls)
onto-some b [] = omega arith
onto-some b (l ∷ ls) = omega arith

split-step : (b : ℕ) (bs y : List ℕ) (t : Bool) → eqb b 10 ≡ t → Split bs y → Split (b ∷ bs) y
unfolding Split
split-step b bs y true e ih =
    rw (lines-at b (bs ++ 10 ∷ []), lines-at b ((bs ++ 10 ∷ []) ++ y), e)
    (omega arith, ap (λ l. (b ∷ []) ∷ l) ih.1)
split-step b bs y false e ih =
    rw (lines-at b (bs ++ 10 ∷ []), lines-at b ((bs ++ 10 ∷ []) ++ y), e) (
      onto-some b (lines (bs ++ 10 ∷ [])),
      ap (onto_first b) ih.1 ∙ onto-append b (lines (bs ++ 10 ∷ [])) (lines y) ih.0,
    )

split : (x y : List ℕ) → Split x y
unfolding Split lines
split [] y = (omega arith, refl)
split (b ∷ bs) y = split-step b bs y (eqb b 10) refl (split bs y)

pub due_joins : DueJoins
unfolding due Split
due_joins o x y =
    ap (flat_map (shown_line o)) (split x y).1 ∙ flat_map-append (shown_line o) (lines (x ++ 10 ∷ [])) (lines y)
