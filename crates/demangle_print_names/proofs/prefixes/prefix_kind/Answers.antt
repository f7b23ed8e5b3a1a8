use Rattle.std.proofs.Common.{false, sym, ◌∙◌}
use Rattle.demangle_printing.specs.State.{is_on, nprefix, tprefix}
use Rattle.demangle_meets.proofs.Acts.{meets_choose_off, meets_choose_on, meets_done, meets_set}
use Rattle.demangle_print_names.proofs.prefixes.prefix_kind.Goals as goal

pub returns-then-is_on : goal.returns-then-is_on
returns-then-is_on g c =
    record {
      rest = λ p b x sc it q. meets_choose_on (λ s. is_on tprefix s.flags) _
          (λ _. sym c.is_on.ensures ∙ c.if-is_on.true)
          (meets_set {i = tprefix} {v = false} c.turn.ensures q) meets_done;
    }

pub returns-then-is_on-2 : goal.returns-then-is_on-2
returns-then-is_on-2 g c =
    record {
      rest = λ p b x sc it q.
          meets_choose_off (λ s. is_on tprefix s.flags) _ (λ _. sym c.is_on.ensures ∙ c.if-is_on.false)
          (meets_choose_on (λ s. is_on nprefix s.flags) _ (λ _. sym c.is_on-2.ensures ∙ c.if-is_on-2.true)
          (meets_set {i = nprefix} {v = false} c.turn-then-is_on-2.ensures q) meets_done) meets_done;
    }

pub returns : goal.returns
returns g c =
    record {
      rest = λ p b x sc it q.
          meets_choose_off (λ s. is_on tprefix s.flags) _ (λ _. sym c.is_on.ensures ∙ c.if-is_on.false)
          (meets_choose_off (λ s. is_on nprefix s.flags) _ (λ _. sym c.is_on-2.ensures ∙ c.if-is_on-2.false) q
          meets_done) meets_done;
    }
