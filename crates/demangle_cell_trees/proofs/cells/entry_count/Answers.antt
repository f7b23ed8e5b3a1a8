use Rattle.demangle_cell_trees.proofs.AllEntries.{all_entries}
use Rattle.demangle_cell_trees.proofs.cells.entry_count.Goals as goal

pub returns : goal.returns
returns c = all_entries c.args.subs.now c.mark.result c.mark.ensures
