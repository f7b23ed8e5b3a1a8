use Rattle.demangle_grammar.proofs.CodeLaws.{given_back}
use Rattle.demangle_grammar.proofs.gives_back.Goals as goal

pub returns : goal.returns
returns c = given_back
