use Rattle.demangle_meets.proofs.Acts.{meets_done}
use Rattle.demangle_meets.proofs.Around.{meets_with_params}
use Rattle.demangle_meets.proofs.Parts.{meets_part}
use Rattle.demangle_print_names.proofs.local.in_default.Goals as goal

pub returns : goal.returns
returns g c =
    meets_with_params c.turn.ensures (meets_part c.encoding.ensures meets_done)
    (rw c.is_on-are_shown.ensures at c.turn-2.ensures) meets_done
