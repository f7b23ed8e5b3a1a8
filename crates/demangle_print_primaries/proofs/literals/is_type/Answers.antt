use Rattle.std.proofs.Common.{◌∙◌, ap}
use Rattle.demangle_core.specs.Core.{N}
use Rattle.demangle_core.specs.Table.{entry_at}
use Rattle.demangle_vocab.specs.Builtins.{number_of_builtin}
use Rattle.demangle_print_parts.proofs.Components.{no_builtin_found, no_builtin_there}
use Rattle.demangle_print_primaries.proofs.Words.{other_handle}
use Rattle.demangle_print_primaries.proofs.literals.is_type.Goals as goal

pub returns-in-Builtin : goal.returns-in-Builtin
returns-in-Builtin g c = rw c.in-Builtin.is (c.is_builtin.ensures (g.B.Below.at c.args.below).refers)

pub returns-in-None : goal.returns-in-None
returns-in-None g c =
    rw c.in-BackReference.is
    (no_builtin_there (number_of_builtin c.args.word) (g.B.Below.at c.args.below).refers _ (c.in-None.ensures ∙ ap
    (entry_at N c.in-BackReference.idx) c.subs-subs.ensures))

pub returns-in-Some : goal.returns-in-Some
returns-in-Some g c =
    rw c.in-BackReference.is
    (no_builtin_found (number_of_builtin c.args.word) (g.B.Below.at c.args.below).refers _ _ (c.in-Some.ensures ∙ ap
    (entry_at N c.in-BackReference.idx) c.subs-subs.ensures))

pub returns-in_default : goal.returns-in_default
returns-in_default g c =
    other_handle (number_of_builtin c.args.word) (g.B.Below.at c.args.below).refers c.args.handle.now
    c.in_default.not-Builtin c.in_default.not-BackReference
