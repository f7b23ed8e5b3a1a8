use Rattle.demangle_grammar.proofs.Idle.{is_idle}
use Rattle.demangle_grammar.proofs.is_idle.Goals as goal

pub returns : goal.returns
returns c = is_idle
