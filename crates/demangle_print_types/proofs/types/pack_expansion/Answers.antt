use Rattle.std.proofs.Common.{sym, ◌∙◌, ap}
use Rattle.std.specs.Prelude.{not}
use Rattle.demangle_printing.specs.State.{is_on, pack}
use Rattle.demangle_meets.proofs.Acts.{meets_choose_off, meets_choose_on, meets_done, meets_text}
use Rattle.demangle_meets.proofs.Parts.{meets_part}
use Rattle.demangle_print_types.proofs.types.pack_expansion.Goals as goal

pub returns-then-not-is_on : goal.returns-then-not-is_on
returns-then-not-is_on g c =
    meets_part c.type_handle.ensures
    (meets_choose_on (λ s. not (is_on pack s.flags)) _
    (λ _. ap not (sym c.is_on.ensures ∙ c.if-not-is_on.true)) (meets_text c.text.ensures meets_done) meets_done)

pub returns-else-not-is_on : goal.returns-else-not-is_on
returns-else-not-is_on g c =
    meets_part c.type_handle.ensures
    (meets_choose_off (λ s. not (is_on pack s.flags)) _
    (λ _. ap not (sym c.is_on.ensures ∙ c.if-not-is_on.false)) meets_done meets_done)
