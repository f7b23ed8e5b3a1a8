use Rattle.demangle_nodes.specs.TreeNodes.{parts_of_encoding, tag_of_encoding}
use Rattle.demangle_meets.proofs.Acts.{meets_block, meets_done}
use Rattle.demangle_meets.proofs.Around.{meets_with_params}
use Rattle.demangle_meets.proofs.Parts.{meets_part}
use Rattle.demangle_print_names.proofs.local.relative.Goals as goal

pub returns : goal.returns
returns g c =
    meets_with_params c.turn.ensures
    (meets_part c.encoding.ensures (meets_block (c.in_local.ensures (tag_of_encoding c.args.encoding.now)
    (parts_of_encoding c.args.encoding.now)) meets_done))
    (rw c.is_on-are_shown.ensures at c.turn-2.ensures) meets_done
