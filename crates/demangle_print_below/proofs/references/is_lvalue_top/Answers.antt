use Rattle.std.proofs.Common.{refl, sym, ◌∙◌, ap}
use Rattle.demangle_printing.specs.Rules.{is_lvalue, is_lvalue_top, tag}
use Rattle.demangle_meets.specs.Place.{world_of}
use Rattle.demangle_print_below.proofs.ReferenceItems.{lvalue_is}
use Rattle.demangle_print_below.proofs.Tops.{no_top, top_has}
use Rattle.demangle_print_below.proofs.references.is_lvalue_top.Goals as goal

pub returns-in-None : goal.returns-in-None
returns-in-None g c = λ r. sym (ap (is_lvalue_top (world_of r)) (no_top _ c.in-None.ensures))

pub returns-in-Some : goal.returns-in-Some
returns-in-Some g c = λ r.
    c.is_lvalue_item.ensures ∙ (lvalue_is r c.in-Some.item
    ∙ top_has (is_lvalue_top (world_of r)) (λ x. is_lvalue (world_of r) (tag (world_of r) x)) (λ h hs. refl) _ _
    c.in-Some.ensures)
