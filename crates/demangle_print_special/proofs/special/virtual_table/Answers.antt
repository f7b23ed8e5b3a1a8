use Rattle.demangle_meets.proofs.Acts.{meets_done, meets_text}
use Rattle.demangle_meets.proofs.Events.{meets_event}
use Rattle.demangle_meets.proofs.Parts.{meets_part}
use Rattle.demangle_print_special.proofs.special.virtual_table.Goals as goal

pub returns : goal.returns
returns g c =
    meets_text c.text.ensures (meets_event c.begin_node-told.ensures (meets_part c.type_handle.ensures meets_done)
    c.end_node.ensures (meets_text c.text-2.ensures meets_done))
