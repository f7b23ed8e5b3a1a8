use Rattle.demangle_grammar.proofs.Expands.{follows_references}
use Rattle.demangle_grammar.proofs.follows_references.Goals as goal

pub returns : goal.returns
returns c = follows_references
