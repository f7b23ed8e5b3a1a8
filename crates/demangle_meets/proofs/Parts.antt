-- Levels, and what is printed for a part of a node.
use Rattle.std.proofs.Common.{◌≡◌, ℕ, suc, ◌+◌, List, Some, None, refl, sym, ◌∙◌, ap, subst, arith}
use Rattle.std.proofs.lemmas.List.{append-nil}
use Rattle.demangle_core.specs.Core.{Core, Tag, node, end}
use Rattle.demangle_printing.specs.World.{World, nth}
use Rattle.demangle_printing.specs.World as seen
use Rattle.demangle_printing.specs.State.{State, Answer, yes, bind}
use Rattle.demangle_printing.specs.Scope.{Scope}
use Rattle.demangle_printing.specs.Act.{Job, line, Act, done, call, block}
use Rattle.demangle_printing.specs.Rules.{inner_of}
use Rattle.demangle_printing.specs.Rules.{itself, its_part, as_optional, as_handle, of_holding, optional_seen}
use Rattle.demangle_printing.specs.Rules.{handle_seen, of_handle, of_part, line_for, line_of}
use Rattle.demangle_printing.specs.Print.{body, entered, left_to, print}
use Rattle.demangle_printing.specs.Laws.{BeginsFitting}
use Rattle.demangle_meets.specs.Page.{Page, at}
use Rattle.demangle_meets.specs.Goes.{Goes}
use Rattle.demangle_meets.specs.Place.{Refers, world_of, Place, IsDeeper}
use Rattle.demangle_meets.specs.Calls.{Enters, Stops}
use Rattle.demangle_meets.specs.Meets.{Meets, Prints, Inner, Line, Inside}
use Rattle.demangle_meets.proofs.Heard.{told_nothing}
use Rattle.demangle_meets.proofs.Told.{stopped_before, cut_before}
use Rattle.demangle_meets.proofs.Goes.{goes_as}
use Rattle.demangle_meets.proofs.Acts.{meets_done, meets_silent, meets_block, meets_job}

-- ---- levels
-- A level is entered, and left again.
goes_deeper : {a b : Page} {g : State Core → Answer Core} {S : Type 0} (r : Refers) (left level : ℕ) →
    Goes (record { refers = r; left = left; level = level + 1 }) a b g S →
    Goes (record { refers = r; left = suc left; level = level }) a b
    (λ s. bind (g (entered (world_of r) s)) (left_to (world_of r) s.level)) S
goes_deeper {a} {b} {g} r left level d =
    let
    back : State Core → Answer Core = left_to (world_of r) level
    in
    record {
      done = λ n z. record {
        all = (d.done n z).all;
        is = ap (λ y. bind y back) (d.done n z).is
            ∙ ap (λ m. yes m (at level b)) (append-nil (d.done n z).all);
        told = (d.done n z).told;
        last = (d.done n z).last;
      };
      stopped = λ f n z. stopped_before (g (at (level + 1) a)) back (d.stopped f n z) (told_nothing b.seen);
      cut = λ c n z. cut_before (g (at (level + 1) a)) back (d.cut c n z) (told_nothing b.seen);
      fits = λ n z v. let h = d.fits n z v in omega (arith, h);
      fixed = d.fixed;
      faults = d.faults;
      refusals = d.refusals;
      stays = d.stays;
    }

line_level : (r : Refers) (left level : ℕ) {a b : Page} {j : Job Core} {sc : Scope Core} →
    Meets (record { refers = r; left = left; level = level + 1 }) a b (body (world_of r) j sc) →
    Meets (record { refers = r; left = suc left; level = level }) a b (call j sc done)
unfolding print BeginsFitting
line_level r left level d = meets_job (goes_as (λ _. refl) (λ _ v. v.1) (goes_deeper r left level d.goes)) d.same

-- What is done one level deeper, by its steps.
line_deeper : {p q : Place} {a b : Page} {j : Job Core} {sc : Scope Core} → IsDeeper p q →
    Meets q a b (body (world_of q.refers) j sc) → Meets p a b (call j sc done)
line_deeper {p} {q} {a} {b} {j} {sc} e d =
    subst (λ n. Meets (record { refers = p.refers; left = n; level = p.level }) a b (call j sc done)) (sym e.left)
    (subst (λ r. Meets (record { refers = r; left = suc q.left; level = p.level }) a b (call j sc done)) e.refers
    (line_level q.refers q.left p.level
    (subst (λ l. Meets (record { refers = q.refers; left = q.left; level = l }) a b (body (world_of q.refers) j sc))
    e.level d)))

pub meets_line : {p q : Place} {a m b : Page} {j : Job Core} {sc : Scope Core} → Enters p q a m →
    Meets q m b (body (world_of q.refers) j sc) → Meets p a b (call j sc done)
meets_line e d = meets_silent e.step (line_deeper e.deeper d)

-- No level is left, or printing has stopped.
pub meets_deep : {p : Place} {a b : Page} {j : Job Core} {sc : Scope Core} → Stops p a b → Meets p a b (call j sc done)
unfolding print
meets_deep {p} {a} {b} {j} {sc} d =
    meets_job (goes_as (λ z. ap (λ n. print (world_of p.refers) n j sc (at p.level a)) (d.left z)) (λ _ _. tt)
    (d.step.at_place p)) d.step.same

-- ---- what is printed for a part
-- A node that is neither an optional part nor a handle nor a component, by its line.
pub prints_node : {p q : Place} {a m b : Page} {x : Core} {sc : Scope Core} →
    of_part (world_of p.refers) (Some x) ≡ Some x → Enters p q a m →
    Meets q m b (body (world_of q.refers) (line x) sc) → Prints p a b x sc
prints_node {p} {q} {a} {m} {b} {x} {sc} e h d =
    record { meets = subst (λ z. Meets p a b (line_for (world_of p.refers) z sc)) (sym e) (meets_line h d) }

pub prints_deep : {p : Place} {a b : Page} {x : Core} {sc : Scope Core} →
    of_part (world_of p.refers) (Some x) ≡ Some x → Stops p a b → Prints p a b x sc
prints_deep {p} {a} {b} {x} {sc} e d =
    record { meets = subst (λ z. Meets p a b (line_for (world_of p.refers) z sc)) (sym e) (meets_deep d) }

-- The same by its line apart, and what of an item stands behind.
pub prints_line : {p q : Place} {a m b : Page} {x : Core} {sc : Scope Core} →
    of_part (world_of p.refers) (Some x) ≡ Some x → Enters p q a m → Line q m b x sc → Prints p a b x sc
prints_line e h d = prints_node e h d.meets

pub inner_behind : {p q : Place} {a m b : Page} {x : Core} {sc : Scope Core} → Enters p q a m →
    Inside q m b x sc → Inner p a b x sc
inner_behind {p} {q} {a} {m} {b} {x} {sc} h d =
    record {
      meets = subst (λ r. Meets p a b (inner_of (world_of r) x sc done)) h.deeper.refers (meets_line h d.meets);
    }

pub inner_deep : {p : Place} {a b : Page} {x : Core} {sc : Scope Core} → Stops p a b → Inner p a b x sc
inner_deep d = record { meets = meets_deep d }

-- What holds a part is printed as the part is.
pub prints_same : {p : Place} {a b : Page} {x y : Core} {sc : Scope Core} →
    of_part (world_of p.refers) (Some x) ≡ of_part (world_of p.refers) (Some y) → Prints p a b y sc → Prints p a b x sc
prints_same {p} {a} {b} {x} {y} {sc} e d =
    record { meets = subst (λ z. Meets p a b (line_for (world_of p.refers) z sc)) (sym e) d.meets }

-- For what holds nothing, as an optional part that isn't there, nothing is printed.
pub prints_nothing : {p : Place} {a : Page} {x : Core} {sc : Scope Core} →
    of_part (world_of p.refers) (Some x) ≡ None → Prints p a a x sc
prints_nothing {p} {a} {x} {sc} e =
    record { meets = subst (λ z. Meets p a a (line_for (world_of p.refers) z sc)) (sym e) meets_done }

-- What looks like a component is printed as what the component holds.
part_of : (w : World Core) (x : Core) (t : Tag) (xs : List Core) → w.look x ≡ seen.node t xs →
    as_optional t ≡ itself → as_handle t ≡ its_part → of_part w (Some x) ≡ nth 0 xs
part_of w x t xs e o h =
    ap (of_handle w) (ap (optional_seen w x) e ∙ ap (λ v. of_holding v x xs) o)
    ∙ (ap (handle_seen w x) e ∙ ap (λ v. of_holding v x xs) h)

-- A reference is printed as the component to which it refers.
pub prints_alike : {p : Place} {a b : Page} {x y : Core} {sc : Scope Core} (t : Tag) (xs : List Core) →
    (world_of p.refers).look x ≡ (world_of p.refers).look y → (world_of p.refers).look y ≡ seen.node t xs →
    as_optional t ≡ itself → as_handle t ≡ its_part → Prints p a b y sc → Prints p a b x sc
prints_alike {p} {x = x} {y = y} t xs e f o h d =
    prints_same (part_of (world_of p.refers) x t xs (e ∙ f) o h
    ∙ sym (part_of (world_of p.refers) y t xs f o h)) d

-- A part, and what comes behind it.
pub meets_part : {p : Place} {a m b : Page} {x : Core} {sc : Scope Core} {k : Act Core} → Prints p a m x sc →
    Meets p m b k → Meets p a b (block (line_of (world_of p.refers) (Some x) sc) k)
meets_part d q = meets_block d.meets q

-- ---- nodes whose variant is known
pub prints_at : {X : Type 0} {p : Place} {a b : Page} {x y : X} {sc : Scope Core} (tree : X → Core) → x ≡ y →
    Prints p a b (tree y) sc → Prints p a b (tree x) sc
prints_at {p = p} {a = a} {b = b} {sc = sc} tree e d = subst (λ z. Prints p a b (tree z) sc) (sym e) d

-- where an equation says the parts
pub prints_parts : {X : Type 0} {p : Place} {a b : Page} {x y : X} {ks : Core} {sc : Scope Core} (tag : X → Tag)
    (parts : X → Core) → x ≡ y → parts y ≡ ks → Prints p a b (node (tag y) ks end) sc →
    Prints p a b (node (tag x) (parts x) end) sc
prints_parts {p = p} {a = a} {b = b} {x = x} {y = y} {sc = sc} tag parts e f d =
    subst (λ z. Prints p a b (node (tag z) (parts z) end) sc) (sym e)
    (subst (λ z. Prints p a b (node (tag y) z end) sc) (sym f) d)

-- the same of a line whose level is entered, and of what of an item stands behind
pub line_at : {X : Type 0} {p : Place} {a b : Page} {x y : X} {sc : Scope Core} (tree : X → Core) → x ≡ y →
    Line p a b (tree y) sc → Line p a b (tree x) sc
line_at {p = p} {a = a} {b = b} {sc = sc} tree e d = subst (λ z. Line p a b (tree z) sc) (sym e) d

pub line_parts : {X : Type 0} {p : Place} {a b : Page} {x y : X} {ks : Core} {sc : Scope Core} (tag : X → Tag)
    (parts : X → Core) → x ≡ y → parts y ≡ ks → Line p a b (node (tag y) ks end) sc →
    Line p a b (node (tag x) (parts x) end) sc
line_parts {p = p} {a = a} {b = b} {x = x} {y = y} {sc = sc} tag parts e f d =
    subst (λ z. Line p a b (node (tag z) (parts z) end) sc) (sym e)
    (subst (λ z. Line p a b (node (tag y) z end) sc) (sym f) d)

pub inside_at : {X : Type 0} {p : Place} {a b : Page} {x y : X} {sc : Scope Core} (tree : X → Core) → x ≡ y →
    Inside p a b (tree y) sc → Inside p a b (tree x) sc
inside_at {p = p} {a = a} {b = b} {sc = sc} tree e d = subst (λ z. Inside p a b (tree z) sc) (sym e) d

-- An act of something that is known.
pub meets_at : {X : Type 0} {p : Place} {a b : Page} {x y : X} (f : X → Act Core) → x ≡ y → Meets p a b (f x) →
    Meets p a b (f y)
meets_at {p = p} {a = a} {b = b} f e d = subst (λ z. Meets p a b (f z)) e d

-- What was looked up, as a leaf name or template arguments, and what is done with it.
pub meets_found : {X : Type 0} {p : Place} {a m b : Page} {x y : X} {k : Act Core} (f : X → Act Core) → x ≡ y →
    Meets p a m (f x) → Meets p m b k → Meets p a b (block (f y) k)
meets_found f e d q = meets_block (meets_at f e d) q
