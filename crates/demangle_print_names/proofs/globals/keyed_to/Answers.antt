use Rattle.demangle_meets.proofs.Acts.{meets_done, meets_text}
use Rattle.demangle_meets.proofs.Around.{meets_fence, meets_with_params}
use Rattle.demangle_meets.proofs.Parts.{meets_part}
use Rattle.demangle_print_names.proofs.globals.keyed_to.Goals as goal

pub returns : goal.returns
returns g c =
    meets_fence c.fence-items.ensures
    (meets_with_params c.turn.ensures (meets_text c.text.ensures (meets_part c.mangled_name.ensures meets_done))
    (rw c.is_on-are_shown.ensures at c.turn-2.ensures) meets_done)
    c.unfence.ensures meets_done
