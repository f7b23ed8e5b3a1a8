use Rattle.std.proofs.Common.{refl, sym, ◌∙◌, ap}
use Rattle.demangle_printing.specs.Rules.{is_lvalue, is_lvalue_top, tag}
use Rattle.demangle_meets.specs.Place.{world_of}
use Rattle.demangle_lines.proofs.Tops.{no_top, top_has}
use Rattle.demangle_lines_inner.proofs.references.is_lvalue_top.Goals as goal

pub returns-in-None : goal.returns-in-None
returns-in-None g c = sym (ap (is_lvalue_top (world_of (g.B.Below.at c.args.below).refers)) (no_top _ c.in-None.ensures))

pub returns-in-Some : goal.returns-in-Some
returns-in-Some g c =
    c.is_lvalue.ensures
    ∙ top_has (is_lvalue_top (world_of (g.B.Below.at c.args.below).refers)) (λ x. is_lvalue (world_of (g.B.Below.at c.args.below).refers) (tag (world_of (g.B.Below.at c.args.below).refers) x)) (λ h hs. refl) _ _ c.in-Some.ensures
