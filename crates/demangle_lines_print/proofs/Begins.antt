-- Where printing begins.
use Rattle.std.proofs.Common.{◌≡◌, ℕ, ◌-◌, ◌<◌, refl, subst}
use Rattle.demangle_meets.specs.Page.{Fixed}
use Rattle.demangle_meets.specs.Place.{Refers}
use Rattle.demangle_context.specs.View.{View}
use Rattle.demangle_lines_tied.specs.PlaceOf.{place_in}

-- the place of a context, by its level and its limit
pub begins_at : (r : Refers) (f : Fixed) {level deepest : ℕ} → r ≡ f.refers → level ≡ f.level →
    deepest ≡ f.limit - 1 → record { refers = r; left = deepest - level; level = level } ≡ place_in f
begins_at r f e g h = rw (e, g, h) refl

-- a level is left
pub is_below : {S : Type 0} {u v : View S} (level : ℕ) → level ≡ u.items.level → level < u.items.limit → u ≡ v →
    v.items.level < v.items.limit
is_below {S} {u} level e l f =
    subst (λ (w : View S). w.items.level < w.items.limit) f (subst (λ n. n < u.items.limit) e l)
