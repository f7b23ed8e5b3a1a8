use Rattle.demangle_meets.proofs.Acts.{meets_block, meets_done}
use Rattle.demangle_lines_names.proofs.choices.every_1.Goals as goal

pub returns : goal.returns
returns g c = record { meets = meets_block c.itself.ensures meets_done }
