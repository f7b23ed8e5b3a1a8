-- What of an item stands behind, by the number of its tag.
use Rattle.std.proofs.Common.{◌≡◌, ℕ, Bool, true, false, ◌==◌, ap, refl, sym, ◌∙◌, subst, Some}
use Rattle.demangle_core.specs.Core.{Core, Tag, code}
use Rattle.demangle_printing.specs.World.{World, Seen, nothing, node, bytes, number, flag, word}
use Rattle.demangle_printing.specs.Act.{Job, inside}
use Rattle.demangle_printing.specs.Lines.{inside_steps}
use Rattle.demangle_printing.specs.Print.{body, steps_inside}
use Rattle.demangle_printing.specs.Reader.{run}
use Rattle.demangle_printing.specs.Rules.{inside_node, tag, tag_seen}
use Rattle.demangle_printing.specs.Scope.{Scope}
use Rattle.demangle_printing.specs.Step.{Step}
use Rattle.demangle_meets.specs.Page.{Page}
use Rattle.demangle_meets.specs.Place.{Place, world_of}
use Rattle.demangle_meets.specs.Meets.{Inside, Meets}
use Rattle.demangle_meets.proofs.Acts.{meets_done}
use Rattle.demangle_lines.specs.Does.{Runs}
use Rattle.demangle_lines_nodes.specs.Tags.{tag_at}

pub tag_is : (t : Tag) → tag_at (code t) ≡ t
unfolding tag_at
tag_is Tag.Present = refl
tag_is _ = refl

-- the steps behind a tree are those of its tag
steps_are : (v : Seen Core) → steps_inside v ≡ inside_steps (tag_seen v)
unfolding inside_steps
steps_are (node t xs) = refl
steps_are nothing = refl
steps_are (bytes bs) = refl
steps_are (number i) = refl
steps_are (flag b) = refl
steps_are (word t k) = refl

-- no function
its_own : (w : World Core) (x : Core) (sc : Scope Core) (t : Tag) → (code t == 71) ≡ false →
    inside_node w x sc t ≡ (inside x, sc)
its_own w x sc Tag.EncodingFunction e = absurd (cc e)
its_own w x sc _ e = refl

pub own_steps : {p : Place} {a b : Page} {x : Core} {sc : Scope Core} →
    (code (tag (world_of p.refers) x) == 71) ≡ false →
    Runs p a b x sc (inside_steps (tag (world_of p.refers) x)) → Inside p a b x sc
unfolding body
own_steps {p} {a} {b} {x} {sc} e d =
    record {
      meets = subst (λ z. Meets p a b (body (world_of p.refers) z.0 z.1))
          (sym (its_own (world_of p.refers) x sc (tag (world_of p.refers) x) e))
          (subst (λ s. Meets p a b (run (world_of p.refers) (Some x) sc s))
          (sym (steps_are ((world_of p.refers).look x))) d.meets);
    }

pub item_behind : {p : Place} {a b : Page} {x : Core} {sc : Scope Core} (n : ℕ) →
    n ≡ code (tag (world_of p.refers) x) → (n == 71) ≡ false → Runs p a b x sc (inside_steps (tag_at n)) →
    Inside p a b x sc
item_behind {p} {a} {b} {x} {sc} n e f d =
    own_steps (ap (λ m. m == 71) (sym e) ∙ f)
    (subst (λ t. Runs p a b x sc (inside_steps t)) (ap tag_at e ∙ tag_is (tag (world_of p.refers) x)) d)

is_the_function : (t : Tag) → 71 ≡ code t → Tag.EncodingFunction ≡ t
unfolding tag_at
is_the_function t e = ap tag_at e ∙ tag_is t

pub function_behind : {p : Place} {a b : Page} {x : Core} {sc : Scope Core} →
    71 ≡ code (tag (world_of p.refers) x) →
    Meets p a b (body (world_of p.refers) (inside_node (world_of p.refers) x sc Tag.EncodingFunction).0
    (inside_node (world_of p.refers) x sc Tag.EncodingFunction).1) → Inside p a b x sc
function_behind {p} {a} {b} {x} {sc} e d =
    record {
      meets = subst (λ t. Meets p a b (body (world_of p.refers) (inside_node (world_of p.refers) x sc t).0
          (inside_node (world_of p.refers) x sc t).1)) (is_the_function (tag (world_of p.refers) x) e) d;
    }
