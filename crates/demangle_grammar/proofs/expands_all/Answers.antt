use Rattle.demangle_grammar.proofs.Expands.{expands_all}
use Rattle.demangle_grammar.proofs.expands_all.Goals as goal

pub returns : goal.returns
returns c = expands_all
