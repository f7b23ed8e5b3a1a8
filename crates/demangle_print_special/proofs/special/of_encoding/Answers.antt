use Rattle.demangle_meets.proofs.Acts.{meets_done, meets_text}
use Rattle.demangle_meets.proofs.Parts.{meets_part}
use Rattle.demangle_print_special.proofs.special.of_encoding.Goals as goal

pub returns : goal.returns
returns g c = meets_text c.text.ensures (meets_part c.encoding.ensures meets_done)
