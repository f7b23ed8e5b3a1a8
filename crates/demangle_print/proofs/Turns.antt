-- The line of a node through whose line recursion goes, or what of an item stands behind: where no level is left, and
-- where it is known what is printed.
use Rattle.std.proofs.Common.{◌≡◌, sym, ◌∙◌, subst}
use Rattle.demangle_core.specs.Core.{Core}
use Rattle.demangle_printing.specs.Scope.{Scope}
use Rattle.demangle_meets.specs.Page.{Page}
use Rattle.demangle_meets.specs.Place.{Place}
use Rattle.demangle_meets.specs.Calls.{Stops}
use Rattle.demangle_meets.proofs.Parts.{prints_deep, prints_same, inner_deep}
use Rattle.demangle_print_primaries.proofs.Itself.{expression_is_itself, template_arg_is_itself}
use Rattle.demangle_print.specs.declared.tied.Named.{Named}
use Rattle.demangle_print.specs.declared.tied.Named.TheVariants as of_named
use Rattle.demangle_print.specs.declared.tied.Part.{Part}
use Rattle.demangle_print.specs.declared.tied.Part.TheVariants as of_part
use Rattle.demangle_print.specs.MayPrint.{DoesNamed, DoesPart}
use Rattle.demangle_print.proofs.Held.{encoding_is_itself, held_is_itself, held_part, mangled_name_is_itself}
use Rattle.demangle_print.proofs.Held.{name_is_itself}

pub named_deep : (p : Place) (a b : Page) (x : Named) (sc : Scope Core) → Stops p a b → DoesNamed p a b x sc
named_deep p a b (of_named.MangledName x) sc d = prints_deep (mangled_name_is_itself p.refers x.now) d
named_deep p a b (of_named.Encoding x) sc d = prints_deep (encoding_is_itself p.refers x.now) d
named_deep p a b (of_named.Name x) sc d = prints_deep (name_is_itself p.refers x.now) d

pub part_deep : (p : Place) (a b : Page) (x : Part) (sc : Scope Core) → Stops p a b → DoesPart p a b x sc
part_deep p a b (of_part.Expression x) sc d = prints_deep (expression_is_itself p.refers x.now) d
part_deep p a b (of_part.TemplateArg x) sc d = prints_deep (template_arg_is_itself p.refers x.now) d
part_deep p a b (of_part.Substitutable x) sc d =
    prints_same (held_part p.refers x.now ∙ sym (held_is_itself p.refers x.now))
    (prints_deep (held_is_itself p.refers x.now) d)
part_deep p a b (of_part.Inner i) sc d = inner_deep d

pub named_at : (p : Place) (a b : Page) {x y : Named} (sc : Scope Core) → x ≡ y → DoesNamed p a b y sc →
    DoesNamed p a b x sc
named_at p a b sc e d = subst (λ v. DoesNamed p a b v sc) (sym e) d

pub part_at : (p : Place) (a b : Page) {x y : Part} (sc : Scope Core) → x ≡ y → DoesPart p a b y sc →
    DoesPart p a b x sc
part_at p a b sc e d = subst (λ v. DoesPart p a b v sc) (sym e) d
