use Rattle.std.proofs.Common.{◌+◌}
use Rattle.demangle_core.specs.Core.{N, U}
use Rattle.demangle_core.specs.Table.{size}
use Rattle.demangle_cell_trees.specs.ArenaTrees.{table_of}
use Rattle.demangle_cell_trees.specs.Steps.{step_of}
use Rattle.demangle_cell_trees.proofs.LastOnes.{settles}
use Rattle.demangle_cell_trees.proofs.found.settled_by.Goals as goal

pub returns-then-end-gt0 : goal.returns-then-end-gt0
returns-then-end-gt0 c =
    settles c.args.sought c.args.subs.now.arena.now (step_of c.args.subs.now.arena.now c.args.first)
    (step_of c.args.subs.now.arena.now c.after.result) c.end_at-end.result
    (c.end_at-end.ensures c.args.sought c.args.subs.now.arena.now
    (size N (table_of c.args.subs.now.arena.now) + size U (table_of c.args.subs.now.arena.now))
    c.ends.ensures c.if-end-gt0.true)
    c.if-end-gt0.true c.after.ensures
