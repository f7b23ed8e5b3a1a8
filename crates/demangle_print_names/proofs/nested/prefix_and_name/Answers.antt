use Rattle.std.proofs.Common.{refl}
use Rattle.demangle_meets.proofs.Acts.{meets_ask, meets_done}
use Rattle.demangle_meets.proofs.Around.{meets_fence}
use Rattle.demangle_meets.proofs.Events.{meets_event}
use Rattle.demangle_meets.proofs.Parts.{meets_part}
use Rattle.demangle_print_names.proofs.nested.prefix_and_name.Goals as goal

pub returns : goal.returns
returns g c =
    meets_fence c.fence-items.ensures
    (meets_event c.begin_node-told.ensures
    (meets_ask (λ _. refl) c.prefix_before.ensures (meets_part c.unqualified_name.ensures meets_done))
    c.end_node.ensures meets_done)
    c.unfence.ensures meets_done
