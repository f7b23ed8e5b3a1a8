-- Rvalue references that are taken from the top, in a loop.
use Rattle.std.proofs.Common.{◌≡◌, ◌<◌, true, false, List, [], ◌∷◌, length, refl, sym, ◌∙◌, ap}
use Rattle.std.proofs.Common.{subst, arith}
use Rattle.demangle_core.specs.Core.{Core}
use Rattle.demangle_printing.specs.World.{World}
use Rattle.demangle_printing.specs.State.{Held, yes, popped, rest}
use Rattle.demangle_printing.specs.Act.{Act}
use Rattle.demangle_meets.specs.Page.{Page}
use Rattle.demangle_meets.specs.Place.{Place, world_of}
use Rattle.demangle_meets.specs.Calls.{Steps}
use Rattle.demangle_meets.specs.Meets.{Meets, RvaluesRemain}
use Rattle.demangle_meets.proofs.Lines.{rvalues_end, rvalues_other, then_rvalue}
use Rattle.demangle_lines_inner.specs.Tops.{is_rvalue_top}

-- one is taken
pub rvalue_taken : {p : Place} {a c d : Page} {f : Act Core} → RvaluesRemain p a c f (length c.inner) →
    is_rvalue_top (world_of p.refers) c.inner ≡ true → Steps c d (λ s. yes [] (popped s)) →
    d.inner ≡ rest c.inner → RvaluesRemain p a d f (length d.inner)
rvalue_taken {p} {a} {c} {d} {f} w is s e = by c.inner refl
  where
    by : (hs : List (Held Core)) → c.inner ≡ hs → RvaluesRemain p a d f (length d.inner)
    by [] z = let wrong = sym (ap (is_rvalue_top (world_of p.refers)) z) ∙ is in absurd (cc wrong)
    by (h ∷ hs) z =
        subst (λ n. RvaluesRemain p a d f n) (sym (ap length e ∙ ap (λ y. length (rest y)) z))
        (then_rvalue (subst (λ n. RvaluesRemain p a c f n) (ap length z) w) (λ _. z)
        (sym (ap (is_rvalue_top (world_of p.refers)) z) ∙ is) s)

-- none is left, or another item is on top
pub rvalues_stop : {p : Place} {a c : Page} {f : Act Core} → RvaluesRemain p a c f (length c.inner) →
    is_rvalue_top (world_of p.refers) c.inner ≡ false → Meets p a c f
rvalues_stop {p} {a} {c} {f} w is = by c.inner refl
  where
    by : (hs : List (Held Core)) → c.inner ≡ hs → Meets p a c f
    by [] z = rvalues_end w (λ _. z)
    by (h ∷ hs) z = rvalues_other w (λ _. z) (sym (ap (is_rvalue_top (world_of p.refers)) z) ∙ is)

-- fewer items wait then
pub shorter : (w : World Core) (xs ys : List (Held Core)) → is_rvalue_top w xs ≡ true → ys ≡ rest xs →
    length ys < length xs
shorter w [] ys is e = absurd (cc is)
shorter w (x ∷ xs) ys is e = let k = ap length e in omega (arith, k)
