-- Types of a function from one on.
use Rattle.std.proofs.Common.{◌≡◌, ℕ, ◌+◌, ◌<◌, ◌≤◌, Bool, true, false, List, [], ◌∷◌, length, drop, Option, Some, None}
use Rattle.std.proofs.Common.{refl, sym, ◌∙◌, ap, subst, arith, length-drop, ◌-◌}
use Rattle.std.proofs.lemmas.List.{drop_all}
use Rattle.demangle_core.specs.Core.{Core}
use Rattle.demangle_printing.specs.World.{World, find, nth, see}
use Rattle.demangle_printing.specs.Scope.{Scope}
use Rattle.demangle_printing.specs.Rules.{is_seen_word, line_of, lines_of}
use Rattle.demangle_printing.specs.Parameters.{is_void}
use Rattle.demangle_meets.specs.Page.{Page}
use Rattle.demangle_meets.specs.Place.{Place, world_of}
use Rattle.demangle_meets.specs.Meets.{ListRemains, Meets}
use Rattle.demangle_meets.proofs.Lines.{first_of_list}
use Rattle.demangle_lines.proofs.Lists.{At, at, list_none}

pub none_from : {p : Place} {a : Page} (sc : Scope Core) (n : ℕ) (xs : List Core) → length xs ≤ n →
    Meets p a a (lines_of (world_of p.refers) (drop n xs) sc)
none_from sc n xs h = list_none sc (drop n xs) (ap length (drop_all n xs h))

pub first_from : {p : Place} {a m : Page} (sc : Scope Core) (n : ℕ) (xs : List Core) → n < length xs →
    Meets p a m (line_of (world_of p.refers) (nth n xs) sc) →
    ListRemains p a m (lines_of (world_of p.refers) (drop n xs) sc) (drop (n + 1) xs) sc
first_from {p} {a} {m} sc n xs h d =
    let t : At n xs = at n xs h in
    subst (λ ys. ListRemains p a m (lines_of (world_of p.refers) ys sc) (drop (n + 1) xs) sc) (sym t.from)
    (first_of_list {x = t.here} {sc = sc} (drop (n + 1) xs)
    (record { meets = subst (λ y. Meets p a m (line_of (world_of p.refers) y sc)) t.is d }))

-- ---- `void` alone
one_type : (w : World Core) (x : Core) (xs ys : List Core) → xs ≡ x ∷ ys → ys ≡ [] →
    is_seen_word 1 0 (see w (find w (Some x) (0 ∷ 0 ∷ []))) ≡ is_void w xs
one_type w x xs ys e f = sym (ap (is_void w) (e ∙ ap (λ z. x ∷ z) f))

pub void_one : (w : World Core) (n : ℕ) (xs : List Core) (x : Core) → length xs ≡ n + 1 → Some x ≡ nth n xs →
    is_seen_word 1 0 (see w (find w (Some x) (0 ∷ 0 ∷ []))) ≡ is_void w (drop n xs)
void_one w n xs x h e =
    let t : At n xs = at n xs (omega (arith, h)) in
    let k : Some x ≡ Some t.here = e ∙ t.is in
    let same : x ≡ t.here = cc in
    ap (λ y. is_seen_word 1 0 (see w (find w (Some y) (0 ∷ 0 ∷ [])))) same
    ∙ one_type w t.here (drop n xs) (drop (n + 1) xs) t.from (drop_all (n + 1) xs (omega (arith, h)))

pub void_never : (w : World Core) (n : ℕ) (xs : List Core) → length xs ≡ n + 1 → None ≡ nth n xs →
    false ≡ is_void w (drop n xs)
void_never w n xs h e =
    let t : At n xs = at n xs (omega (arith, h)) in
    let k : None ≡ Some t.here = e ∙ t.is in
    absurd (cc k)

other_types : (w : World Core) (ys : List Core) → (length ys ≡ 1 → ⊥) → false ≡ is_void w ys
other_types w [] h = refl
other_types w (x ∷ []) h = absurd (h refl)
other_types w (x ∷ y ∷ ys) h = refl

pub void_other : (w : World Core) (n : ℕ) (xs : List Core) → (length xs ≡ n + 1 → ⊥) → false ≡ is_void w (drop n xs)
void_other w n xs h =
    other_types w (drop n xs) (λ e. h (let k = sym (length-drop n xs) ∙ e in omega (arith, k)))
