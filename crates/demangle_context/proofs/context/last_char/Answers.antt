use Rattle.std.proofs.Common.{ap, sym, length, ◌∙◌}
use Rattle.std.specs.Prelude.{slice_get, option_copied, ◌-◌}
use Rattle.demangle_context.proofs.Characters.{ends_in_ascii}
use Rattle.demangle_context.proofs.context.last_char.Goals as goal

pub returns-then-byte-lt128 : goal.returns-then-byte-lt128
returns-then-byte-lt128 c =
    λ _. ends_in_ascii c.args.s.now c.in-Some.byte.now
    (ap (λ l. slice_get l (length l - 1)) (sym c.as_bytes.ensures.value)
    ∙ (sym c.last.ensures.value ∙ ap (λ o. option_copied o) c.in-Some.is))
    c.if-byte-lt128.true
