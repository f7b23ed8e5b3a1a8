use Rattle.demangle_text.proofs.Identifiers.{run_begins}
use Rattle.demangle_text.proofs.laws.run_begins.Goals as goal

pub returns : goal.returns
returns c = run_begins
