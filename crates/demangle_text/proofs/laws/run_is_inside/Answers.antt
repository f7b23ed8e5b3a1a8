use Rattle.demangle_text.proofs.Runs.{run_inside}
use Rattle.demangle_text.proofs.laws.run_is_inside.Goals as goal

pub returns : goal.returns
returns c = run_inside
