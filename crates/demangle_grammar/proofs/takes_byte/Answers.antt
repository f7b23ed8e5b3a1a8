use Rattle.demangle_grammar.proofs.CodeLaws.{byte_taken}
use Rattle.demangle_grammar.proofs.takes_byte.Goals as goal

pub returns : goal.returns
returns c = byte_taken
