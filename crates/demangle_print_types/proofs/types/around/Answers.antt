use Rattle.demangle_meets.proofs.Acts.{meets_done}
use Rattle.demangle_meets.proofs.Around.{meets_held}
use Rattle.demangle_meets.proofs.Parts.{meets_part}
use Rattle.demangle_print_types.proofs.types.around.Goals as goal

pub returns : goal.returns
returns g c =
    meets_held (rw c.level.ensures at c.hold.ensures) (meets_part c.type_handle.ensures meets_done) c.close.ensures
    meets_done
