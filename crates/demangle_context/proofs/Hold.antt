-- Where an item may be pushed at a level that is above those of all items, there is room for it.
use Rattle.std.proofs.Common.{◌<◌, arith}
use Rattle.demangle_meets.proofs.Room.{stacks_suffice}
use Rattle.demangle_context.specs.Items.{HasRoom}
use Rattle.demangle_context.specs.View.{View, state_of}
use Rattle.demangle_context.specs.Calls.{IsReadyToHold}

pub ready_has_room : {S : Type 0} {v : View S} → v.items.level < v.items.limit → IsReadyToHold v → HasRoom v.items
ready_has_room {S} {v} h r =
    let a = stacks_suffice v.items.aside (state_of v) r.ready in record { is = omega (arith, a, h, r.levels) }
