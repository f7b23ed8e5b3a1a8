-- What contracts see of an index.
use Rattle.std.specs.Prelude.{ℕ, List, map, option_map, string_bytes}
use Rattle.demangle_groups.specs.Places.{Scope}
use Rattle.demangle_groups.specs.Places as places
use Rattle.demangle_groups.specs.declared.index.Group.{Group}
use Rattle.demangle_groups.specs.declared.index.Index.{Index}

abbrev pub scope_of : Group → Scope
scope_of g = option_map string_bytes g.scope

abbrev pub positions_of : Group → List ℕ
positions_of g = g.positions.items

abbrev pub groups_of : Index → List Group
groups_of i = i.groups.items

abbrev pub refused_of : Index → List ℕ
refused_of i = i.refused.items

abbrev pub shown_group : Group → places.Group
shown_group g = record { scope = scope_of g; positions = positions_of g }

abbrev pub shown : Index → places.Index
shown i = record { groups = map shown_group (groups_of i); refused = refused_of i }
