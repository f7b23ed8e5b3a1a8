-- Laws on what a sink was given of what is due for names.
use Rattle.std.proofs.Common.{◌≡◌, ℕ, List, [], ◌∷◌, ◌++◌, map, sym, ap, ◌∙◌, append_assoc, append-nil}
use Rattle.std.specs.Prelude.{Option}
use Rattle.std.specs.Borrow.{Bor}
use Rattle.cppfilt_ends.specs.Moves.{Moves, Begins}
use Rattle.cppfilt_ends.proofs.MoveLaws.{moves-more, moves-then, begins-more, begins-then}
use Rattle.cppfilt_lines.specs.Due.{due_names}
use Rattle.cppfilt_lines.specs.Shown.{shown}
use Rattle.cppfilt_lines.specs.declared.options.FilterOptions.{FilterOptions}

-- what is due for names that are lent
abbrev pub due_lent : FilterOptions → List (Bor (List ℕ)) → List ℕ
due_lent o names = due_names o (map (λ name. name.now) names)

-- what is due for one
abbrev pub due_one : FilterOptions → List ℕ → List ℕ
due_one o name = shown o name ++ 10 ∷ []

due-next : (o : FilterOptions) (names rest : List (Bor (List ℕ))) (name : Bor (List ℕ)) → names ≡ name ∷ rest
    → due_lent o names ≡ due_one o name.now ++ due_lent o rest
due-next o names rest name is = ap (due_lent o) is

pub moves-name : (o : FilterOptions) (a b c : Option (List ℕ)) (whole gathered after : List ℕ)
    (names rest : List (Bor (List ℕ))) (name : Bor (List ℕ)) → names ≡ name ∷ rest
    → Moves a b whole (gathered ++ due_lent o names) → Moves b c (gathered ++ due_one o name.now) after
    → Moves a c whole (after ++ due_lent o rest)
moves-name o a b c whole gathered after names rest name is p q =
    let next = ap (λ l. gathered ++ l) (due-next o names rest name is)
    ∙ sym (append_assoc gathered (due_one o name.now) (due_lent o rest)) in
    moves-then a b c whole (gathered ++ due_lent o names) (after ++ due_lent o rest) p
    (rw next (moves-more b c (gathered ++ due_one o name.now) after (due_lent o rest) q))

pub begins-name : (o : FilterOptions) (a b c : Option (List ℕ)) (whole gathered : List ℕ)
    (names rest : List (Bor (List ℕ))) (name : Bor (List ℕ)) → names ≡ name ∷ rest
    → Moves a b whole (gathered ++ due_lent o names) → Begins b c (gathered ++ due_one o name.now)
    → Begins a c whole
begins-name o a b c whole gathered names rest name is p q =
    let next = ap (λ l. gathered ++ l) (due-next o names rest name is)
    ∙ sym (append_assoc gathered (due_one o name.now) (due_lent o rest)) in
    begins-then a b c whole (gathered ++ due_lent o names) p
    (rw next (begins-more b c (gathered ++ due_one o name.now) (due_lent o rest) q))

-- nothing is left
pub moves-names : (o : FilterOptions) (a b : Option (List ℕ)) (whole gathered : List ℕ)
    (names : List (Bor (List ℕ))) → names ≡ [] → Moves a b whole (gathered ++ due_lent o names)
    → Moves a b whole gathered
moves-names o a b whole gathered names none p =
    let e : gathered ++ due_lent o names ≡ gathered =
    ap (λ l. gathered ++ due_lent o l) none ∙ append-nil gathered in
    rw (← e) p
