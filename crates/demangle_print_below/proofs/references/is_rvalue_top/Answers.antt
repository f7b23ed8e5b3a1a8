use Rattle.std.proofs.Common.{refl, sym, ◌∙◌, ap}
use Rattle.demangle_printing.specs.Rules.{is_rvalue, tag}
use Rattle.demangle_meets.specs.Place.{world_of}
use Rattle.demangle_print_below.specs.References.{is_rvalue_top}
use Rattle.demangle_print_below.proofs.ReferenceItems.{rvalue_is}
use Rattle.demangle_print_below.proofs.Tops.{no_top, top_has}
use Rattle.demangle_print_below.proofs.references.is_rvalue_top.Goals as goal

pub returns-in-None : goal.returns-in-None
returns-in-None g c = λ r. sym (ap (is_rvalue_top (world_of r)) (no_top _ c.in-None.ensures))

pub returns-in-Some : goal.returns-in-Some
returns-in-Some g c = λ r.
    c.is_rvalue_item.ensures ∙ (rvalue_is r c.in-Some.item
    ∙ top_has (is_rvalue_top (world_of r)) (λ x. is_rvalue (world_of r) (tag (world_of r) x)) (λ h hs. refl) _ _
    c.in-Some.ensures)
