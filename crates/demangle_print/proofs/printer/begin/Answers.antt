use Rattle.std.proofs.Common.{◌≡◌, ℕ, ◌<◌, ◌∙◌, refl, ap, subst}
use Rattle.demangle_table.specs.TableOf.{table_of}
use Rattle.demangle_context.specs.PageOf.{page, page_of}
use Rattle.demangle_context.specs.View.{View}
use Rattle.demangle_print_below.specs.PlaceOf.{place_in}
use Rattle.demangle_print.proofs.printer.begin.Goals as goal

is_below : {S : Type 0} {u v : View S} (level : ℕ) → level ≡ u.items.level → level < u.items.limit → u ≡ v →
    v.items.level < v.items.limit
is_below {S} {u} level e l f =
    subst (λ (w : View S). w.items.level < w.items.limit) f (subst (λ n. n < u.items.limit) e l)

pub returns : goal.returns
unfolding page
returns g c =
    record {
      page = ap (page_of table_of) c.start.ensures;
      place = c.of.ensures ∙ ap (λ v. place_in (page_of table_of v).fixed) c.start.ensures;
      below = is_below _ c.recursion_level-level.ensures.value c.recursion_level-level.ensures.below c.start.ensures;
      reserved = refl;
      law = c.prints_declared.ensures.trees;
    }
