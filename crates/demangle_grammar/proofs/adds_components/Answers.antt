use Rattle.demangle_grammar.proofs.Readings.{added}
use Rattle.demangle_grammar.proofs.adds_components.Goals as goal

pub returns : goal.returns
returns c = added
