use Rattle.std.proofs.Common.{Ok, take}
use Rattle.demangle_cells.specs.View.{view}
use Rattle.demangle_core.specs.Core.{numbers}
use Rattle.demangle_leaves_to_cells.specs.Put.{Waits}
use Rattle.demangle_leaves_to_cells.proofs.parts.wait_signed_list.Given as goal

abbrev pub invariant-loop-node : goal.invariant-loop-node
invariant-loop-node l = Waits (view l.fn.arena) (view l.arena) (Ok tt) (numbers (take l.node-index l.nodes))
