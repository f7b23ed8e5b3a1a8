use Rattle.demangle_groups.proofs.OnceLaws.{stands-once}
use Rattle.demangle_groups.proofs.each_stands_once.Goals as goal

pub returns : goal.returns
returns c = stands-once
