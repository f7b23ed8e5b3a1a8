use Rattle.demangle_grammar.proofs.Readings.{gone_on}
use Rattle.demangle_grammar.proofs.goes_on.Goals as goal

pub returns : goal.returns
returns c = gone_on
