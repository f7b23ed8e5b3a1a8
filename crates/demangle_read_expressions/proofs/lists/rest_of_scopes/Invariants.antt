use Rattle.std.proofs.Common.{◌-◌, ◌^◌}
use Rattle.demangle_grammar.specs.Rule.{Row}
use Rattle.demangle_cells.specs.View.{Waited, view}
use Rattle.demangle_read_types.specs.Lists.{Reaches}
use Rattle.demangle_read_expressions.proofs.lists.rest_of_scopes.Given as goal

abbrev pub invariant-loop-more : goal.invariant-loop-more
invariant-loop-more g l = record {
  waited : Waited (view l.fn.arena) (view l.arena);
  reaches : Reaches Row.unresolved_qualifier_level l.depth.levels l.depth.conversion l.text l.at l.end (view l.fn.arena) (view l.arena);
}

abbrev pub decreases-loop-more : goal.decreases-loop-more
decreases-loop-more g l = 2 ^ 32 - l.end
