use Rattle.demangle_grammar.proofs.Expands.{expands_entries}
use Rattle.demangle_grammar.proofs.expands_entries.Goals as goal

pub returns : goal.returns
returns c = expands_entries
