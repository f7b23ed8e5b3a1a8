use Rattle.demangle_meets.proofs.Parts.{inner_behind, inner_deep, meets_deep, meets_line}
use Rattle.demangle_lines_tied.proofs.printing.+printing.Goals as goal

pub print_line-returns-in_default : goal.print_line-returns-in_default
print_line-returns-in_default g t c = meets_deep c.in_default.ensures

pub print_line-returns : goal.print_line-returns
print_line-returns g t c = meets_line c.in-Some.ensures c.tree_line.ensures

pub print_leaf-returns-in_default : goal.print_leaf-returns-in_default
print_leaf-returns-in_default g t c = meets_deep c.in_default.ensures

pub print_leaf-returns : goal.print_leaf-returns
print_leaf-returns g t c = meets_line c.in-Some.ensures c.leaf_inside.ensures

pub print_behind-returns-in_default : goal.print_behind-returns-in_default
print_behind-returns-in_default g t c = inner_deep c.in_default.ensures

pub print_behind-returns : goal.print_behind-returns
print_behind-returns g t c = inner_behind c.in-Some.ensures c.item_inside.ensures
