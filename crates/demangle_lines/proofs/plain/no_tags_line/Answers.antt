use Rattle.demangle_printing.specs.Lines.{line_steps}
use Rattle.demangle_printing.specs.Print.{body}
use Rattle.demangle_meets.proofs.Acts.{meets_block, meets_done}
use Rattle.demangle_meets.proofs.Parts.{meets_deep, meets_line}
use Rattle.demangle_lines.proofs.plain.no_tags_line.Goals as goal

pub returns-in_default : goal.returns-in_default
returns-in_default g c = λ sc. meets_deep c.in_default.ensures

pub returns : goal.returns
unfolding body line_steps
returns g c = λ sc. meets_line c.in-Some.ensures.0 (meets_block meets_done meets_done)
