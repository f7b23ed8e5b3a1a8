-- Lists with commas between, as loops go through them by number.
use Rattle.std.proofs.Common.{◌≡◌, ℕ, zero, suc, Bool, true, false, ◌||◌, Option, ◌+◌, ◌<◌, ◌≤◌, List, [], ◌∷◌, length, drop, Some, codes, refl, sym, ◌∙◌, ap}
use Rattle.std.proofs.Common.{subst, add-one, arith}
use Rattle.std.proofs.lemmas.List.{drop_all}
use Rattle.demangle_core.specs.Core.{Core}
use Rattle.demangle_printing.specs.State.{written}
use Rattle.demangle_printing.specs.Scope.{Scope, in_member}
use Rattle.demangle_printing.specs.Act.{Act, block}
use Rattle.demangle_printing.specs.Reader.{blocks, run}
use Rattle.demangle_printing.specs.Rules.{is_set, line_of, lines_of, members_of}
use Rattle.demangle_printing.specs.Parameters.{any_set}
use Rattle.demangle_printing.specs.Step.{Step}
use Rattle.demangle_printing.specs.World.{World, nth, see}
use Rattle.demangle_meets.specs.Page.{Page}
use Rattle.demangle_meets.specs.Place.{Place, world_of}
use Rattle.demangle_meets.specs.Calls.{Steps}
use Rattle.demangle_meets.specs.Meets.{Meets, ListRemains, MembersRemain}
use Rattle.demangle_meets.proofs.Acts.{meets_done}
use Rattle.demangle_meets.proofs.Lines.{first_of_list, next_of_list, list_ends}
use Rattle.demangle_meets.proofs.Lines.{first_of_members, next_of_members, members_end}
use Rattle.demangle_lines.specs.Shapes.{flag_shape, shape_in}
use Rattle.demangle_lines.specs.declared.tree.Shape.{Shape}
use Rattle.demangle_lines.proofs.Shapes.{set_is}

-- ---- what stands at a number
pub record At {X : Type 0} (n : ℕ) (xs : List X) : Type 0 where
  pub here : X
  pub is : nth n xs ≡ Some here
  pub from : drop n xs ≡ here ∷ drop (n + 1) xs

after : {X : Type 0} (n : ℕ) (x : X) (xs : List X) → drop (n + 1) xs ≡ drop (suc n + 1) (x ∷ xs)
after n x xs =
    let k : suc n + 1 ≡ suc (n + 1) = omega arith in sym (ap (λ m. drop m (x ∷ xs)) k)

pub at : {X : Type 0} (n : ℕ) (xs : List X) → n < length xs → At n xs
at n [] h = absurd (omega (arith, h))
at zero (x ∷ xs) h = record { here = x; is = refl; from = refl }
at (suc n) (x ∷ xs) h =
    let rest : At n xs = at n xs (omega (arith, h)) in
    record { here = rest.here; is = rest.is; from = rest.from ∙ ap (λ ys. rest.here ∷ ys) (after n x xs) }

-- the line of what stands there
line_there : {p : Place} {a b : Page} (sc : Scope Core) (n : ℕ) (xs : List Core) (t : At n xs) →
    Meets p a b (line_of (world_of p.refers) (nth n xs) sc) →
    Meets p a b (line_of (world_of p.refers) (Some t.here) sc)
line_there {p} {a} {b} sc n xs t d = subst (λ y. Meets p a b (line_of (world_of p.refers) y sc)) t.is d

-- ---- lists
pub list_none : {p : Place} {a : Page} (sc : Scope Core) (xs : List Core) → length xs ≡ 0 →
    Meets p a a (lines_of (world_of p.refers) xs sc)
list_none sc [] e = meets_done
list_none sc (x ∷ xs) e = absurd (cc e)

pub list_first : {p : Place} {a m : Page} (sc : Scope Core) (xs : List Core) → 0 < length xs →
    Meets p a m (line_of (world_of p.refers) (nth 0 xs) sc) →
    ListRemains p a m (lines_of (world_of p.refers) xs sc) (drop 1 xs) sc
list_first sc [] h d = absurd (omega (arith, h))
list_first sc (x ∷ xs) h d = first_of_list {x = x} {sc = sc} xs (record { meets = d })

pub list_next : {p : Place} {a c d e : Page} {f : Act Core} {sc : Scope Core} (n : ℕ) (xs : List Core) →
    n < length xs → ListRemains p a c f (drop n xs) sc → Steps c d (written (codes ", ")) →
    Meets p d e (line_of (world_of p.refers) (nth n xs) sc) → ListRemains p a e f (drop (n + 1) xs) sc
list_next {p} {a} {c} {f = f} {sc = sc} n xs h w s q =
    let t = at n xs h in
    next_of_list (subst (λ ys. ListRemains p a c f ys sc) t.from w) s (record { meets = line_there sc n xs t q })

pub list_over : {p : Place} {a c : Page} {f : Act Core} {sc : Scope Core} (n : ℕ) (xs : List Core) → length xs ≤ n →
    ListRemains p a c f (drop n xs) sc → Meets p a c f
list_over {p} {a} {c} {f} {sc} n xs h w =
    list_ends (subst (λ ys. ListRemains p a c f ys sc) (drop_all n xs h) w)

-- ---- template arguments, each in the scope of its member
pub members_none : {p : Place} {a : Page} (sc : Scope Core) (place : ℕ) (xs : List Core) → length xs ≡ 0 →
    Meets p a a (members_of (world_of p.refers) place xs sc)
members_none sc place [] e = meets_done
members_none sc place (x ∷ xs) e = absurd (cc e)

pub members_first : {p : Place} {a m : Page} (sc : Scope Core) (place : ℕ) (xs : List Core) → 0 < length xs →
    Meets p a m (line_of (world_of p.refers) (nth 0 xs) (in_member 0 place sc)) →
    MembersRemain p a m (members_of (world_of p.refers) place xs sc) 1 place (drop 1 xs) sc
members_first sc place [] h d = absurd (omega (arith, h))
members_first sc place (x ∷ xs) h d = first_of_members {x = x} {sc = sc} place xs (record { meets = d })

pub members_next : {p : Place} {a c d e : Page} {f : Act Core} {sc : Scope Core} {place : ℕ} (n : ℕ)
    (xs : List Core) → n < length xs → MembersRemain p a c f n place (drop n xs) sc →
    Steps c d (written (codes ", ")) →
    Meets p d e (line_of (world_of p.refers) (nth n xs) (in_member n place sc)) →
    MembersRemain p a e f (n + 1) place (drop (n + 1) xs) sc
members_next {p} {a} {c} {e = e} {f = f} {sc = sc} {place = place} n xs h w s q =
    let t = at n xs h in
    subst (λ k. MembersRemain p a e f k place (drop (n + 1) xs) sc) (sym (add-one n))
    (next_of_members (subst (λ ys. MembersRemain p a c f n place ys sc) t.from w) s
    (record { meets = line_there (in_member n place sc) n xs t q }))

pub members_over : {p : Place} {a c : Page} {f : Act Core} {sc : Scope Core} {place : ℕ} (n : ℕ) (xs : List Core) →
    length xs ≤ n → MembersRemain p a c f n place (drop n xs) sc → Meets p a c f
members_over {p} {a} {c} {f} {sc} {place} n xs h w =
    members_end (subst (λ ys. MembersRemain p a c f n place ys sc) (drop_all n xs h) w)

-- ---- whether some part of a list says that something is so
pub any_first : (w : World Core) (xs : List Core) → any_set w xs ≡ any_set w (drop 0 xs)
any_first w xs = refl

-- whether the one at a number says so
set_there : (w : World Core) (n : ℕ) (xs : List Core) (t : At n xs) (o : Option Core) (s : Shape) → o ≡ nth n xs →
    s ≡ shape_in (see w o) → flag_shape s ≡ is_set (w.look t.here)
set_there w n xs t o s e f =
    ap flag_shape f ∙ (set_is (see w o) ∙ ap (λ y. is_set (see w y)) (e ∙ t.is))

any_at : (w : World Core) (n : ℕ) (xs : List Core) (t : At n xs) →
    any_set w (drop n xs) ≡ (is_set (w.look t.here) || any_set w (drop (n + 1) xs))
any_at w n xs t = ap (any_set w) t.from

pub any_next : (w : World Core) (n : ℕ) (xs : List Core) (o : Option Core) (s : Shape) →
    any_set w xs ≡ any_set w (drop n xs) → n < length xs → o ≡ nth n xs → s ≡ shape_in (see w o) →
    flag_shape s ≡ false → any_set w xs ≡ any_set w (drop (n + 1) xs)
any_next w n xs o s i h e f is =
    let t = at n xs h in
    i ∙ (any_at w n xs t
    ∙ ap (λ v. v || any_set w (drop (n + 1) xs)) (sym (set_there w n xs t o s e f) ∙ is))

pub any_here : (w : World Core) (n : ℕ) (xs : List Core) (o : Option Core) (s : Shape) →
    any_set w xs ≡ any_set w (drop n xs) → n < length xs → o ≡ nth n xs → s ≡ shape_in (see w o) →
    flag_shape s ≡ true → true ≡ any_set w xs
any_here w n xs o s i h e f is =
    let t = at n xs h in
    sym (i ∙ (any_at w n xs t
    ∙ ap (λ v. v || any_set w (drop (n + 1) xs)) (sym (set_there w n xs t o s e f) ∙ is)))

pub any_over : (w : World Core) (n : ℕ) (xs : List Core) → any_set w xs ≡ any_set w (drop n xs) → length xs ≤ n →
    false ≡ any_set w xs
any_over w n xs i h = sym (i ∙ ap (any_set w) (drop_all n xs h))
