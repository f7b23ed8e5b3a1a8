use Rattle.std.proofs.Common.{sym, true, ◌∙◌}
use Rattle.demangle_printing.specs.State.{is_on, littypes}
use Rattle.demangle_meets.proofs.Acts.{meets_choose_off, meets_choose_on, meets_done, meets_text}
use Rattle.demangle_meets.proofs.Parts.{meets_part}
use Rattle.demangle_print_primaries.proofs.literals.type_first.Goals as goal

pub returns-then-is_on : goal.returns-then-is_on
returns-then-is_on g c =
    meets_choose_on (λ s. is_on littypes s.flags) _ (λ _. sym c.is_on.ensures ∙ c.if-is_on.true) (meets_text
    c.text.ensures (meets_part c.type_handle.ensures (meets_text c.text-then-is_on.ensures meets_done))) meets_done

pub returns-else-is_on : goal.returns-else-is_on
returns-else-is_on g c =
    meets_choose_off (λ s. is_on littypes s.flags) _ (λ _. sym c.is_on.ensures ∙ c.if-is_on.false) meets_done
    meets_done
