use Rattle.demangle_text.proofs.Identifiers.{run_is_longest}
use Rattle.demangle_text.proofs.laws.run_is_longest.Goals as goal

pub returns : goal.returns
returns c = run_is_longest
