use Rattle.demangle_grammar.proofs.Cores.{reads_cores}
use Rattle.demangle_grammar.proofs.reads_cores.Goals as goal

pub returns : goal.returns
returns c = reads_cores
