use Rattle.demangle_meets.proofs.Acts.{meets_block, meets_done, meets_text}
use Rattle.demangle_print_special.proofs.special.java_resource.Goals as goal

pub returns : goal.returns
returns g c = λ sc. meets_text c.text.ensures (meets_block (c.each_resource.ensures _) meets_done)
