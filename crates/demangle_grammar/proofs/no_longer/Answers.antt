use Rattle.demangle_grammar.proofs.CodeLaws.{no_longer}
use Rattle.demangle_grammar.proofs.no_longer.Goals as goal

pub returns : goal.returns
returns c = no_longer
