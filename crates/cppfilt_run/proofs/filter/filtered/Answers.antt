use Rattle.cppfilt_run.proofs.RunLaws.{stop-memory}
use Rattle.cppfilt_run.proofs.filter.filtered.Goals as goal

pub returns-in_default : goal.returns-in_default
returns-in_default g c = stop-memory c.args.options.now c.args.limit _ _ _ _ _ _

pub returns-in_default-from_elem : goal.returns-in_default-from_elem
returns-in_default-from_elem g c = stop-memory c.args.options.now c.args.limit _ _ _ _ _ _
