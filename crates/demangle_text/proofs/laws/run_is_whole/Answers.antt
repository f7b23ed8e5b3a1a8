use Rattle.demangle_text.proofs.Identifiers.{run_is_whole}
use Rattle.demangle_text.proofs.laws.run_is_whole.Goals as goal

pub returns : goal.returns
returns c = run_is_whole
