use Rattle.demangle_meets.proofs.Acts.{meets_block, meets_done, meets_text}
use Rattle.demangle_lines_names.proofs.choices.every_2.Goals as goal

pub returns : goal.returns
returns g c = record { meets = meets_text c.text.ensures (meets_block c.spelled_itself.ensures meets_done) }
