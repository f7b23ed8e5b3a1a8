-- Nothing stands behind an item of another tag.
use Rattle.std.proofs.Common.{◌≡◌, ◌==◌, false, refl}
use Rattle.demangle_core.specs.Core.{Core, Tag, code}
use Rattle.demangle_printing.specs.Lines.{inside_steps}
use Rattle.demangle_printing.specs.Rules.{tag}
use Rattle.demangle_printing.specs.Scope.{Scope}
use Rattle.demangle_printing.specs.Step.{Step}
use Rattle.demangle_meets.specs.Page.{Page}
use Rattle.demangle_meets.specs.Place.{Place, world_of}
use Rattle.demangle_meets.specs.Meets.{Inside}
use Rattle.demangle_meets.proofs.Acts.{meets_done}
use Rattle.demangle_lines.proofs.Doing.{runs_as}
use Rattle.demangle_lines_nodes.proofs.Behind.{own_steps}

no_function : (t : Tag) → (code t ≡ 71 → ⊥) → (code t == 71) ≡ false
no_function Tag.EncodingFunction h = absurd (h refl)
no_function _ h = refl

nothing_steps : (t : Tag) → (code t ≡ 17 → ⊥) → (code t ≡ 50 → ⊥) → (code t ≡ 53 → ⊥) → (code t ≡ 71 → ⊥) → (code t ≡
    175 → ⊥) → (code t ≡ 176 → ⊥) → (code t ≡ 177 → ⊥) → (code t ≡ 178 → ⊥) → (code t ≡ 179 → ⊥) → (code t ≡ 186 → ⊥)
    → (code t ≡ 195 → ⊥) → (code t ≡ 197 → ⊥) → (code t ≡ 198 → ⊥) → (code t ≡ 199 → ⊥) → inside_steps t ≡ Step.done
unfolding inside_steps
nothing_steps Tag.CvQualifiers h17 h50 h53 h71 h175 h176 h177 h178 h179 h186 h195 h197 h198 h199 = absurd (h17 refl)
nothing_steps Tag.BareFunctionType h17 h50 h53 h71 h175 h176 h177 h178 h179 h186 h195 h197 h198 h199 = absurd (h50
    refl)
nothing_steps Tag.PointerToMemberType h17 h50 h53 h71 h175 h176 h177 h178 h179 h186 h195 h197 h198 h199 = absurd (h53
    refl)
nothing_steps Tag.ArrayTypeDimensionNumber h17 h50 h53 h71 h175 h176 h177 h178 h179 h186 h195 h197 h198 h199 = absurd
    (h175 refl)
nothing_steps Tag.ArrayTypeDimensionExpression h17 h50 h53 h71 h175 h176 h177 h178 h179 h186 h195 h197 h198 h199 =
    absurd (h176 refl)
nothing_steps Tag.ArrayTypeNoDimension h17 h50 h53 h71 h175 h176 h177 h178 h179 h186 h195 h197 h198 h199 = absurd
    (h177 refl)
nothing_steps Tag.VectorTypeDimensionNumber h17 h50 h53 h71 h175 h176 h177 h178 h179 h186 h195 h197 h198 h199 = absurd
    (h178 refl)
nothing_steps Tag.VectorTypeDimensionExpression h17 h50 h53 h71 h175 h176 h177 h178 h179 h186 h195 h197 h198 h199 =
    absurd (h179 refl)
nothing_steps Tag.FunctionType h17 h50 h53 h71 h175 h176 h177 h178 h179 h186 h195 h197 h198 h199 = absurd (h186 refl)
nothing_steps Tag.TypeNodeQualified h17 h50 h53 h71 h175 h176 h177 h178 h179 h186 h195 h197 h198 h199 = absurd (h195
    refl)
nothing_steps Tag.TypeNodePointerTo h17 h50 h53 h71 h175 h176 h177 h178 h179 h186 h195 h197 h198 h199 = absurd (h197
    refl)
nothing_steps Tag.TypeNodeLvalueRef h17 h50 h53 h71 h175 h176 h177 h178 h179 h186 h195 h197 h198 h199 = absurd (h198
    refl)
nothing_steps Tag.TypeNodeRvalueRef h17 h50 h53 h71 h175 h176 h177 h178 h179 h186 h195 h197 h198 h199 = absurd (h199
    refl)
nothing_steps _ h17 h50 h53 h71 h175 h176 h177 h178 h179 h186 h195 h197 h198 h199 = refl

pub nothing_behind : {p : Place} {a : Page} {x : Core} {sc : Scope Core} → (code (tag (world_of p.refers) x) ≡ 17 → ⊥)
    → (code (tag (world_of p.refers) x) ≡ 50 → ⊥) → (code (tag (world_of p.refers) x) ≡ 53 → ⊥) → (code (tag (world_of
    p.refers) x) ≡ 71 → ⊥) → (code (tag (world_of p.refers) x) ≡ 175 → ⊥) → (code (tag (world_of p.refers) x) ≡ 176 →
    ⊥) → (code (tag (world_of p.refers) x) ≡ 177 → ⊥) → (code (tag (world_of p.refers) x) ≡ 178 → ⊥) → (code (tag
    (world_of p.refers) x) ≡ 179 → ⊥) → (code (tag (world_of p.refers) x) ≡ 186 → ⊥) → (code (tag (world_of p.refers)
    x) ≡ 195 → ⊥) → (code (tag (world_of p.refers) x) ≡ 197 → ⊥) → (code (tag (world_of p.refers) x) ≡ 198 → ⊥) →
    (code (tag (world_of p.refers) x) ≡ 199 → ⊥) → Inside p a a x sc
nothing_behind {p} {x = x} h17 h50 h53 h71 h175 h176 h177 h178 h179 h186 h195 h197 h198 h199 = own_steps (no_function
    (tag (world_of p.refers) x) h71) (runs_as (nothing_steps (tag (world_of p.refers) x) h17 h50 h53 h71 h175 h176
    h177 h178 h179 h186 h195 h197 h198 h199) (record { meets = meets_done }))
