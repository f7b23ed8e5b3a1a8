use Rattle.demangle_printing.specs.Lines.{line_steps}
use Rattle.demangle_meets.proofs.Acts.{meets_block, meets_done, meets_text}
use Rattle.demangle_lines_names.proofs.lines.unscoped_name_std.Goals as goal

pub returns : goal.returns
unfolding line_steps
returns g c = record { meets = meets_text c.text.ensures (meets_block c.name_part.ensures meets_done) }
