use Rattle.std.proofs.Common.{refl}
use Rattle.demangle_meets.proofs.Acts.{meets_ask, meets_done}
use Rattle.demangle_print_parts.proofs.builtin.qualifier_words.Goals as goal

pub returns : goal.returns
returns g c = λ p.
    meets_ask (λ _. refl) (c.word_if.ensures _) (meets_ask (λ _. refl) (c.word_if-2.ensures _)
    (meets_ask (λ _. refl) (c.word_if-3.ensures _) meets_done))
