use Rattle.demangle_grammar.proofs.Limits.{has_no_limit}
use Rattle.demangle_grammar.proofs.has_no_limit.Goals as goal

pub returns : goal.returns
returns c = has_no_limit
