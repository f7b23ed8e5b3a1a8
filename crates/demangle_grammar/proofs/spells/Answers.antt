use Rattle.demangle_grammar.proofs.Readings.{spelled}
use Rattle.demangle_grammar.proofs.spells.Goals as goal

pub returns : goal.returns
returns c = spelled
