use Rattle.std.proofs.Common.{refl}
use Rattle.demangle_core.specs.Table.{entry_at}
use Rattle.demangle_grammar.specs.Rows.{rule}
use Rattle.demangle_grammar.specs.Reading.{run_rule, read_from}
use Rattle.demangle_grammar.proofs.completes_pointer.Goals as goal

pub returns : goal.returns
unfolding read_from run_rule rule entry_at
returns c = refl
