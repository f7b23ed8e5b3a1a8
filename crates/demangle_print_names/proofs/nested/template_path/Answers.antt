use Rattle.std.proofs.Common.{false, true}
use Rattle.demangle_printing.specs.State.{nprefix}
use Rattle.demangle_meets.proofs.Acts.{meets_done, meets_set}
use Rattle.demangle_meets.proofs.Around.{meets_fence}
use Rattle.demangle_meets.proofs.Parts.{meets_part}
use Rattle.demangle_print_names.proofs.nested.template_path.Goals as goal

pub returns : goal.returns
returns g c =
    meets_set {i = nprefix} {v = true} c.turn.ensures
    (meets_fence c.fence-items.ensures (meets_part c.prefix_handle.ensures meets_done) c.unfence.ensures
    (meets_set {i = nprefix} {v = false} c.turn-2.ensures meets_done))
