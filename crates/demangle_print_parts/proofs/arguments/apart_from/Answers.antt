use Rattle.std.proofs.Common.{◌∙◌, sym}
use Rattle.demangle_printing.specs.State.{is_byte}
use Rattle.demangle_meets.proofs.Acts.{meets_choose_off, meets_choose_on, meets_done, meets_text}
use Rattle.demangle_print_parts.proofs.arguments.apart_from.Goals as goal

pub returns-then-last_is : goal.returns-then-last_is
returns-then-last_is g c = λ p k. record {
  rest = λ b q. meets_choose_on (λ s. is_byte c.args.bracket s.last) _
      (λ _. sym c.last_is.ensures ∙ c.if-last_is.true) (meets_text c.text.ensures meets_done) q;
}

pub returns-else-last_is : goal.returns-else-last_is
returns-else-last_is g c = λ p k. record {
  rest = λ b q. meets_choose_off (λ s. is_byte c.args.bracket s.last) _
      (λ _. sym c.last_is.ensures ∙ c.if-last_is.false) meets_done q;
}
