use Rattle.demangle_meets.proofs.Acts.{meets_block, meets_done, meets_text}
use Rattle.demangle_lines_expressions.proofs.choices.every_1.Goals as goal

pub returns : goal.returns
returns g c = record { meets = meets_block c.itself.ensures (meets_text c.text.ensures meets_done) }
