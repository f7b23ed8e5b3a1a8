use Rattle.std.proofs.Common.{refl}
use Rattle.demangle_vocab.specs.Operators.{number_of_operator}
use Rattle.demangle_print_primaries.proofs.Words.{other_operator}
use Rattle.demangle_print_expressions.proofs.operators.is_operator.Goals as goal

pub returns-in-Simple : goal.returns-in-Simple
returns-in-Simple c = λ r. rw (c.in-Simple.is, c.number.ensures, c.number-in-Simple.ensures) refl

pub returns-in_default : goal.returns-in_default
returns-in_default c =
    λ r. other_operator (number_of_operator c.args.word) r c.args.operator.now c.in_default.not-Simple
