-- What contracts of lines see of the context of a printing over the syntax tree.
use Rattle.demangle_table.specs.declared.table.SubstitutionTable.{SubstitutionTable}
use Rattle.demangle_table.specs.TableOf.{table_of}
use Rattle.demangle_meets.specs.Seen.{Seen}
use Rattle.demangle_meets.specs.Page.{Page}
use Rattle.demangle_context.specs.declared.context.Context.{Context}
use Rattle.demangle_context.specs.PageOf as context
use Rattle.demangle_scope.specs.declared.inner.InnerItem.{InnerItem}
use Rattle.demangle_scope.specs.ItemTree.{item_tree}

abbrev pub page : {W : Type 0} → (W → Seen) → Context InnerItem SubstitutionTable W → Page
page seen c = context.page item_tree table_of seen c
