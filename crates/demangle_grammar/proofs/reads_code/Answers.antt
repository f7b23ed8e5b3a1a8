use Rattle.demangle_grammar.proofs.Bridge.{reads_code}
use Rattle.demangle_grammar.proofs.reads_code.Goals as goal

pub returns : goal.returns
returns c = reads_code
