use Rattle.demangle_grammar.proofs.Limits.{is_limited}
use Rattle.demangle_grammar.proofs.is_limited.Goals as goal

pub returns : goal.returns
returns c = is_limited
