use Rattle.std.proofs.Common.{refl}
use Rattle.demangle_meets.proofs.Acts.{meets_ask, meets_done}
use Rattle.demangle_meets.proofs.Lines.{meets_rest}
use Rattle.demangle_print_names.proofs.nested.member_qualifiers.Goals as goal

pub returns : goal.returns
returns g c =
    λ sc. meets_rest (c.shown_qualifiers.ensures sc _)
    (meets_ask (λ _. refl) (c.reference_mark.ensures sc) meets_done)
