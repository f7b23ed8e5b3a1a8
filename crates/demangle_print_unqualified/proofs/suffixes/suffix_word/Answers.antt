use Rattle.demangle_print_unqualified.proofs.Words.{meets_word, meets_word_none}
use Rattle.demangle_print_unqualified.proofs.suffixes.suffix_word.Goals as goal

pub returns-in-Some : goal.returns-in-Some
returns-in-Some g c =
    λ p. meets_word _ c.in-Some.ensures.1 (rw c.in-Some.ensures.0 at c.name.ensures) c.text.ensures
    (rw c.in-Some.ensures.0 at c.text-in-Some.ensures)

pub returns-in-None : goal.returns-in-None
returns-in-None g c = λ p. meets_word_none _ c.in-None.ensures c.text-in-None.ensures c.fail.ensures
