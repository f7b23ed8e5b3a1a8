-- What the cells stand for where cells and indexes are added, and that there is always one F that says it.
use Rattle.std.proofs.Common.{slice_get, Some, ◌≡◌, refl, ap, ◌∙◌, sym, subst, ℕ, suc, zero, ◌≤◌, ◌<◌, ◌+◌}
use Rattle.std.proofs.Common.{true}
use Rattle.std.proofs.Common.{List, [], ◌∷◌, ◌++◌, length, arith}
use Rattle.std.specs.Prelude.{Result, Ok, Err, OnOk, OnErr}
use Rattle.demangle_core.specs.Core.{Core}
use Rattle.demangle_cells.specs.Fixed.{first_cell, first_reference}
use Rattle.demangle_cells.specs.Cells.{plain_tree, holds_from}
use Rattle.demangle_cells.specs.Behind.{is_behind, all_behind}
use Rattle.demangle_cells.specs.declared.plain.Plain.{Plain}
use Rattle.demangle_cells.proofs.Lists.{length_last}

-- ---- cells that are added at the end
pub front : (F : ℕ → Core) (l : List ℕ) (n : ℕ) (cs ds : List Plain) → holds_from F l n (cs ++ ds) → holds_from F l n cs
front F l n [] ds h = tt
front F l n (c ∷ cs) ds h = (h.0, front F l (n + 1) cs ds h.1)

pub last : (F : ℕ → Core) (l : List ℕ) (n : ℕ) (cs : List Plain) (c : Plain) → holds_from F l n (cs ++ c ∷ [])
    → F (n + length cs) ≡ plain_tree F l c
last F l n [] c h = let e : n + zero ≡ n = omega arith in ap F e ∙ h.0
last F l n (d ∷ cs) c h =
    let e : n + suc (length cs) ≡ (n + 1) + length cs = omega arith in
    ap F e ∙ last F l (n + 1) cs c h.1

pub behind_last : (n : ℕ) (l : List ℕ) (cs : List Plain) (c : Plain) → all_behind n l cs ≡ true
    → is_behind (n + length cs) l c ≡ true → all_behind n l (cs ++ c ∷ []) ≡ true
behind_last n l [] c h k =
    let e : n + zero ≡ n = omega arith in
    let b : is_behind n l c ≡ true = subst (λ m. is_behind m l c ≡ true) e k in
    grind (arith, b)
behind_last n l (d ∷ cs) c h k =
    let e : n + suc (length cs) ≡ (n + 1) + length cs = omega arith in
    let b : is_behind ((n + 1) + length cs) l c ≡ true = subst (λ m. is_behind m l c ≡ true) e k in
    let d1 : is_behind n l d ≡ true = grind (arith, h) in
    let d2 : all_behind (n + 1) l cs ≡ true = grind (arith, h) in
    let r : all_behind (n + 1) l (cs ++ c ∷ []) ≡ true = behind_last (n + 1) l cs c d2 b in
    rw (d1, r) refl

pub few_more : (cs ds : List Plain) (c : Plain) → ds ≡ cs ++ c ∷ [] → first_cell + length cs < first_reference
    → first_cell + length ds ≤ first_reference
few_more cs ds c e h =
    let l = length_last cs c in
    let m : length ds ≡ length (cs ++ c ∷ []) = ap length e in
    omega (arith, h, l, m)

pub behind_more : (l : List ℕ) (cs ds : List Plain) (c : Plain) → ds ≡ cs ++ c ∷ []
    → all_behind first_cell l cs ≡ true → is_behind (first_cell + length cs) l c ≡ true
    → all_behind first_cell l ds ≡ true
behind_more l cs ds c e h k = ap (all_behind first_cell l) e ∙ behind_last first_cell l cs c h k

-- behind a try to add one
pub cells_after : {A E : Type 0} (r : Result A E) (l : List ℕ) (cs ds : List Plain) (c : Plain)
    → OnOk r (ds ≡ cs ++ c ∷ []) → OnErr r (ds ≡ cs) → first_cell + length cs < first_reference
    → all_behind first_cell l cs ≡ true → is_behind (first_cell + length cs) l c ≡ true
    → (first_cell + length ds ≤ first_reference) × (all_behind first_cell l ds ≡ true)
cells_after (Ok x) l cs ds c o e h b k = (few_more cs ds c o h, behind_more l cs ds c o b k)
cells_after (Err x) l cs ds c o e h b k =
    let m : length ds ≡ length cs = ap length e in
    (omega (arith, h, m), ap (all_behind first_cell l) e ∙ b)

-- the cell at a place
pub cell_at : (F : ℕ → Core) (l : List ℕ) (n : ℕ) (cs : List Plain) (k : ℕ) (c : Plain) → slice_get cs k ≡ Some c
    → holds_from F l n cs → F (n + k) ≡ plain_tree F l c
cell_at F l n [] k c e h = cc
cell_at F l n (d ∷ cs) zero c e h =
    let z : n + zero ≡ n = omega arith in
    let s : d ≡ c = cc in
    ap F z ∙ (h.0 ∙ ap (plain_tree F l) s)
cell_at F l n (d ∷ cs) (suc k) c e h =
    let z : n + suc k ≡ (n + 1) + k = omega arith in
    ap F z ∙ cell_at F l (n + 1) cs k c e h.1

pub behind_at : (n : ℕ) (l : List ℕ) (cs : List Plain) (k : ℕ) (c : Plain) → slice_get cs k ≡ Some c
    → all_behind n l cs ≡ true → is_behind (n + k) l c ≡ true
behind_at n l [] k c e h = cc
behind_at n l (d ∷ cs) zero c e h =
    let z : n + zero ≡ n = omega arith in
    let s : d ≡ c = cc in
    let b : is_behind n l d ≡ true = grind (arith, h) in
    ap (λ m. is_behind m l c) z ∙ (ap (is_behind n l) (sym s) ∙ b)
behind_at n l (d ∷ cs) (suc k) c e h =
    let z : n + suc k ≡ (n + 1) + k = omega arith in
    let r : all_behind (n + 1) l cs ≡ true = grind (arith, h) in
    ap (λ m. is_behind m l c) z ∙ behind_at (n + 1) l cs k c e r
