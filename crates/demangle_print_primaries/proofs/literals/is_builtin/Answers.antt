use Rattle.std.proofs.Common.{refl}
use Rattle.demangle_vocab.specs.Builtins.{number_of_builtin}
use Rattle.demangle_print_primaries.proofs.Words.{other_builtin}
use Rattle.demangle_print_primaries.proofs.literals.is_builtin.Goals as goal

pub returns-in-Standard : goal.returns-in-Standard
returns-in-Standard c = λ r. rw (c.in-Standard.is, c.number.ensures, c.number-in-Standard.ensures) refl

pub returns-in_default : goal.returns-in_default
returns-in_default c =
    λ r. other_builtin (number_of_builtin c.args.word) r c.args.node.now c.in_default.not-Standard
