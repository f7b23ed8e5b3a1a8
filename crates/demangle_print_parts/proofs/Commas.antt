-- Lists with commas between, as loops go through them behind their first.
use Rattle.std.proofs.Common.{◌≡◌, ℕ, suc, ◌+◌, ◌<◌, ◌≤◌, List, [], ◌∷◌, length, map, drop, get_or, codes, refl, sym}
use Rattle.std.proofs.Common.{◌∙◌, ap, subst, add-one, drop-cons}
use Rattle.std.proofs.lemmas.List.{drop_all}
use Rattle.demangle_core.specs.Core.{Core}
use Rattle.demangle_printing.specs.State.{written}
use Rattle.demangle_printing.specs.Scope.{Scope, in_member}
use Rattle.demangle_printing.specs.Act.{Act}
use Rattle.demangle_printing.specs.Rules.{lines_of, members_of}
use Rattle.demangle_meets.specs.Page.{Page}
use Rattle.demangle_meets.specs.Place.{Place, world_of}
use Rattle.demangle_meets.specs.Calls.{Steps}
use Rattle.demangle_meets.specs.Meets.{Meets, Prints, ListRemains, MembersRemain}
use Rattle.demangle_meets.proofs.Lines.{first_of_list, next_of_list, list_ends}
use Rattle.demangle_meets.proofs.Lines.{first_of_members, next_of_members, members_end}

-- ---- lists
-- the first
pub list_begins : {A : Type 0} {p : Place} {a m : Page} {sc : Scope Core} (tree : A → Core) (xs ys : List A) (x : A) →
    Prints p a m (tree x) sc → xs ≡ x ∷ ys →
    ListRemains p a m (lines_of (world_of p.refers) (map tree xs) sc) (map tree ys) sc
list_begins {p = p} {a = a} {m = m} {sc = sc} tree xs ys x d e =
    subst (λ zs. ListRemains p a m (lines_of (world_of p.refers) (map tree zs) sc) (map tree ys) sc) (sym e)
    (first_of_list (map tree ys) d)

-- each further one
pub list_next : {A : Type 0} {p : Place} {a c d e : Page} {f : Act Core} {sc : Scope Core} (tree : A → Core)
    (xs : List A) (n : ℕ) (x : A) → ListRemains p a c f (map tree (drop n xs)) sc →
    Steps c d (written (codes ", ")) → Prints p d e (tree x) sc → drop n xs ≡ x ∷ drop (n + 1) xs →
    ListRemains p a e f (map tree (drop (n + 1) xs)) sc
list_next {p = p} {a = a} {c = c} {f = f} {sc = sc} tree xs n x w s q h =
    next_of_list (subst (λ zs. ListRemains p a c f (map tree zs) sc) h w) s q

-- none is left
pub list_over : {A : Type 0} {p : Place} {a c : Page} {f : Act Core} {sc : Scope Core} (tree : A → Core) (xs : List A)
    (n : ℕ) → ListRemains p a c f (map tree (drop n xs)) sc → length xs ≤ n → Meets p a c f
list_over {p = p} {a = a} {c = c} {f = f} {sc = sc} tree xs n w h =
    list_ends (subst (λ zs. ListRemains p a c f (map tree zs) sc) (drop_all n xs h) w)

-- ---- template arguments, each in the scope of its member
pub members_begin : {A : Type 0} {p : Place} {a m : Page} {sc : Scope Core} (tree : A → Core) (list : ℕ)
    (xs ys : List A) (x : A) → Prints p a m (tree x) (in_member 0 list sc) → xs ≡ x ∷ ys →
    MembersRemain p a m (members_of (world_of p.refers) list (map tree xs) sc) 1 list (map tree (drop 1 xs)) sc
members_begin {p = p} {a = a} {m = m} {sc = sc} tree list xs ys x d e =
    subst
    (λ zs. MembersRemain p a m (members_of (world_of p.refers) list (map tree zs) sc) 1 list (map tree (drop 1 zs)) sc)
    (sym e) (first_of_members list (map tree ys) d)

pub members_next : {A : Type 0} {p : Place} {a c d e : Page} {f : Act Core} {sc : Scope Core} {list : ℕ}
    (tree : A → Core) (xs : List A) (n : ℕ) (x : A) → MembersRemain p a c f n list (map tree (drop n xs)) sc →
    Steps c d (written (codes ", ")) → Prints p d e (tree x) (in_member n list sc) →
    drop n xs ≡ x ∷ drop (n + 1) xs → MembersRemain p a e f (n + 1) list (map tree (drop (n + 1) xs)) sc
members_next {p = p} {a = a} {c = c} {e = e} {f = f} {sc = sc} {list = list} tree xs n x w s q h =
    subst (λ k. MembersRemain p a e f k list (map tree (drop (n + 1) xs)) sc) (sym (add-one n))
    (next_of_members (subst (λ zs. MembersRemain p a c f n list (map tree zs) sc) h w) s q)

pub members_over : {A : Type 0} {p : Place} {a c : Page} {f : Act Core} {sc : Scope Core} {list : ℕ} (tree : A → Core)
    (xs : List A) (n : ℕ) → MembersRemain p a c f n list (map tree (drop n xs)) sc → length xs ≤ n → Meets p a c f
members_over {p = p} {a = a} {c = c} {f = f} {sc = sc} {list = list} tree xs n w h =
    members_end (subst (λ zs. MembersRemain p a c f n list (map tree zs) sc) (drop_all n xs h) w)

-- ---- what is left of a list
pub drops_one : {A : Type 0} (xs : List A) (n : ℕ) (x : A) → x ≡ get_or xs n x → n < length xs →
    drop n xs ≡ x ∷ drop (n + 1) xs
drops_one xs n x e h =
    drop-cons xs n x h ∙ ap (λ y. y ∷ drop (suc n) xs) (sym e) ∙ ap (λ m. x ∷ drop m xs) (sym (add-one n))

pub is_empty : {A : Type 0} (xs : List A) → length xs ≡ 0 → xs ≡ []
is_empty [] e = refl
is_empty (x ∷ xs) e = absurd (cc e)
