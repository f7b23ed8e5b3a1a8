-- What contracts see of the place of a line.
use Rattle.std.specs.Prelude.{◌-◌}
use Rattle.demangle_core.specs.Table.{Table}
use Rattle.demangle_meets.specs.Page.{Fixed}
use Rattle.demangle_meets.specs.Place.{Place, Refers}
use Rattle.demangle_lines_tied.specs.declared.depth.Depth.{Depth}
use Rattle.demangle_lines_tied.specs.declared.depth.Sources.{Sources}

-- what trees refer to
abbrev pub refers_of : {S : Type 0} → (S → Table) → Sources S → Refers
refers_of table s = record { table = table s.subs.now; input = s.input.now }

abbrev pub place_of : {S : Type 0} → (S → Table) → Depth S → Place
place_of table d =
    record { refers = refers_of table d.sources.now; left = d.sources.now.deepest - d.level; level = d.level }

-- the place of a context
abbrev pub place_in : Fixed → Place
place_in f = record { refers = f.refers; left = (f.limit - 1) - f.level; level = f.level }
