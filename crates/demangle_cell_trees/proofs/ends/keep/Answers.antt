use Rattle.std.proofs.Common.{◌∙◌, ap, suc}
use Rattle.demangle_cell_trees.specs.ArenaTrees.{table_of}
use Rattle.demangle_cell_trees.specs.Ends.{last_of, seat}
use Rattle.demangle_cell_trees.specs.Steps.{component_in}
use Rattle.demangle_cell_trees.proofs.LastOnes.{kept_next, kept_set}
use Rattle.demangle_cell_trees.proofs.ends.keep.Goals as goal

pub returns-then-end-eq0-clause-more : goal.returns-then-end-eq0-clause-more
returns-then-end-eq0-clause-more c = kept_next c.args.sought c.args.arena.now c.args.split c.args.ends.now

pub returns-then-slot-ends-clause-more : goal.returns-then-slot-ends-clause-more
returns-then-slot-ends-clause-more c =
    λ m k. kept_set c.args.sought c.args.arena.now c.args.split c.args.ends.now m c.in-Some.slot c.end_of-end.result k
    c.if-slot-ends.true
    (λ p. ap (λ x. seat (last_of (component_in c.args.sought) (table_of c.args.arena.now) (suc m) x))
    (c.in-Some.ensures c.args.arena.now) ∙ c.end_of-end.ensures m k p)

pub returns-else-slot-ends-clause-more : goal.returns-else-slot-ends-clause-more
returns-else-slot-ends-clause-more c = kept_next c.args.sought c.args.arena.now c.args.split c.args.ends.now

pub returns-in_default-clause-more : goal.returns-in_default-clause-more
returns-in_default-clause-more c = kept_next c.args.sought c.args.arena.now c.args.split c.args.ends.now
