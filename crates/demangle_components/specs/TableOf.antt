-- The table that two lists of components are.
use Rattle.demangle_core.specs.Core.{Core}
use Rattle.demangle_core.specs.Table.{Table}
use Rattle.demangle_components.specs.View.{table_from}
use Rattle.demangle_components.specs.declared.components.Components.{Components}

abbrev pub table_of : {T : Type 0} → (T → Core) → Components T → Table
table_of tree t = table_from tree t.numbered.items t.others.items t.numbered_before.items
