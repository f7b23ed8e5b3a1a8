-- The table that a `SubstitutionTable` is.
use Rattle.demangle_core.specs.Table.{Table}
use Rattle.demangle_components.specs.TableOf as components
use Rattle.demangle_entries.specs.TreeEntries.{tree_of_substitutable}
use Rattle.demangle_table.specs.declared.table.SubstitutionTable.{SubstitutionTable}

abbrev pub table_of : SubstitutionTable → Table
table_of t = components.table_of tree_of_substitutable t.components
