use Rattle.std.proofs.Common.{◌-◌}
use Rattle.demangle_lines_tied.proofs.printing.+printing.Given as goal

abbrev pub decreases-print_line : goal.decreases-print_line
decreases-print_line g l = l.depth.sources.now.deepest - l.depth.level

abbrev pub decreases-print_leaf : goal.decreases-print_leaf
decreases-print_leaf g l = l.depth.sources.now.deepest - l.depth.level

abbrev pub decreases-print_behind : goal.decreases-print_behind
decreases-print_behind g l = l.depth.sources.now.deepest - l.depth.level
