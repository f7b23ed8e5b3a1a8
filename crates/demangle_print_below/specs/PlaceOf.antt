-- What contracts see of the place of a line.
use Rattle.std.specs.Prelude.{◌-◌}
use Rattle.demangle_table.specs.TableOf.{table_of}
use Rattle.demangle_meets.specs.Page.{Fixed}
use Rattle.demangle_meets.specs.Place.{Place}
use Rattle.demangle_print_below.specs.declared.depth.Depth.{Depth}

unfoldable pub place_of : Depth → Place
place_of d =
    record {
      refers = record { table = table_of d.subs.now; input = d.input.now };
      left = d.deepest - d.level;
      level = d.level;
    }

-- the place of a context
abbrev pub place_in : Fixed → Place
place_in f = record { refers = f.refers; left = (f.limit - 1) - f.level; level = f.level }
