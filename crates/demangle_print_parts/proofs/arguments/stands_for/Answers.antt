use Rattle.std.proofs.Common.{◌∙◌, sym}
use Rattle.demangle_printing.specs.State.{is_on, lambda}
use Rattle.demangle_meets.proofs.Acts.{meets_block, meets_choose_off, meets_choose_on, meets_done, meets_text}
use Rattle.demangle_print_parts.proofs.arguments.stands_for.Goals as goal

pub returns-then-is_on : goal.returns-then-is_on
returns-then-is_on g c =
    meets_choose_on (λ s. is_on lambda s.flags) _ (λ _. sym c.is_on.ensures ∙ c.if-is_on.true)
    (meets_text c.text.ensures (meets_text c.ordinal.ensures meets_done)) meets_done

pub returns-else-is_on : goal.returns-else-is_on
returns-else-is_on g c =
    meets_choose_off (λ s. is_on lambda s.flags) _ (λ _. sym c.is_on.ensures ∙ c.if-is_on.false)
    (meets_block c.argument.ensures meets_done) meets_done
