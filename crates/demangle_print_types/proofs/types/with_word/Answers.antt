use Rattle.demangle_meets.proofs.Acts.{meets_done, meets_text}
use Rattle.demangle_meets.proofs.Parts.{meets_part}
use Rattle.demangle_print_types.proofs.types.with_word.Goals as goal

pub returns : goal.returns
returns g c = meets_part c.type_handle.ensures (meets_text c.text.ensures meets_done)
