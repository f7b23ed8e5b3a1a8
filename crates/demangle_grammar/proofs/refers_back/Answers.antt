use Rattle.demangle_grammar.proofs.Back.{refers_back}
use Rattle.demangle_grammar.proofs.refers_back.Goals as goal

pub returns : goal.returns
returns c = refers_back
