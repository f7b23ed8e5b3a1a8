use Rattle.demangle_outline.proofs.Levels.{more_levels}
use Rattle.demangle_outline.proofs.more_levels.Goals as goal

pub returns : goal.returns
returns c = more_levels
