use Rattle.demangle_grammar.proofs.NeverDeep.{all_ends}
use Rattle.demangle_grammar.proofs.ends.Goals as goal

pub returns : goal.returns
returns c = all_ends
