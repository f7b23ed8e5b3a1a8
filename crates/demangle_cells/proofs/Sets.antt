-- Replies are data: any two proofs that two of them are equal are equal.
use Rattle.std.proofs.Common.{◌≡◌, refl, ap, sym, ◌∙◌, ℕ, ℤ, Bool}
use Rattle.std.proofs.Props.{props}
use mathlib.Core.HLevel.{collapsible→set}
use Rattle.demangle_core.specs.Core.{Core, Tag, Which}
use Rattle.demangle_core.specs.Core as core
use Rattle.demangle_grammar.specs.Code.{Reply}

data Shadow : Type 0 where
  end : Shadow
  node : Tag → Shadow → Shadow → Shadow
  place : ℕ → ℕ → Shadow → Shadow
  number : ℤ → Shadow → Shadow
  flag : Bool → Shadow → Shadow
  chosen : ℕ → ℕ → Shadow → Shadow
  ref : Which → ℕ → Shadow → Shadow
  mark : ℕ → Shadow → Shadow
  deriving IsSet as Shadow-set

abbrev shadow : Core → Shadow
shadow core.end = end
shadow (core.node t x n) = node t (shadow x) (shadow n)
shadow (core.place i j n) = place i j (shadow n)
shadow (core.number v n) = number v (shadow n)
shadow (core.flag v n) = flag v (shadow n)
shadow (core.chosen t k n) = chosen t k (shadow n)
shadow (core.ref w k n) = ref w k (shadow n)
shadow (core.mark i n) = mark i (shadow n)

abbrev cast : Shadow → Core
cast end = core.end
cast (node t x n) = core.node t (cast x) (cast n)
cast (place i j n) = core.place i j (cast n)
cast (number v n) = core.number v (cast n)
cast (flag v n) = core.flag v (cast n)
cast (chosen t k n) = core.chosen t k (cast n)
cast (ref w k n) = core.ref w k (cast n)
cast (mark i n) = core.mark i (cast n)

back : (x : Core) → cast (shadow x) ≡ x
back core.end = refl
back (core.node t x n) = λ i. core.node t (back x i) (back n i)
back (core.place i j n) = ap (core.place i j) (back n)
back (core.number v n) = ap (core.number v) (back n)
back (core.flag v n) = ap (core.flag v) (back n)
back (core.chosen t k n) = ap (core.chosen t k) (back n)
back (core.ref w k n) = ap (core.ref w k) (back n)
back (core.mark i n) = ap (core.mark i) (back n)

tag_set : IsSet Tag
tag_set = hlevel props

which_set : IsSet Which
which_set = hlevel props

shadow_set : IsSet Shadow
shadow_set = Shadow-set tag_set (hlevel props) (hlevel props) (hlevel props) which_set

core_set : IsSet Core
core_set =
    collapsible→set (λ x y p. sym (back x) ∙ (ap cast (ap shadow p) ∙ back y))
    (λ x y p q. ap (λ e. sym (back x) ∙ (ap cast e ∙ back y))
    (shadow_set (shadow x) (shadow y) (ap shadow p) (ap shadow q)))

pub reply_set : IsSet Reply
reply_set = hlevel (props, core_set)
