use Rattle.demangle_grammar.proofs.CodeLaws.{index_kept}
use Rattle.demangle_grammar.proofs.keeps_index.Goals as goal

pub returns : goal.returns
returns c = index_kept
