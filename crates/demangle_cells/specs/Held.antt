-- What a list whose room stays holds: a front of its room.
use Rattle.std.specs.Prelude.{List, take}
use Rattle.demangle_cells.specs.declared.room.Room.{Room}

unfoldable pub held : {T : Type 0} → Room T → List T
held r = take r.count r.room.items
