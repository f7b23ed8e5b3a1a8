use Rattle.std.proofs.Common.{◌-◌, ◌^◌}
use Rattle.demangle_grammar.specs.Rule.{Row}
use Rattle.demangle_cells.specs.View.{Waited, view}
use Rattle.demangle_read_types.specs.Lists.{Reaches}
use Rattle.demangle_read_types.proofs.lists.rest_of_arguments.Given as goal

abbrev pub invariant-rows : goal.invariant-rows
invariant-rows g l = record {
  waited : Waited (view l.fn.arena) (view l.arena);
  reaches : Reaches Row.template_arg l.depth.levels l.depth.conversion l.text l.at l.end (view l.fn.arena)
      (view l.arena);
}

abbrev pub decreases-rows : goal.decreases-rows
decreases-rows g l = 2 ^ 32 - l.end
