use Rattle.std.proofs.Common.{◌∙◌, sym, ap}
use Rattle.demangle_core.specs.Lookups.{settled}
use Rattle.demangle_cell_trees.specs.ArenaTrees.{node_at, tree_at}
use Rattle.demangle_cell_trees.specs.NodeTrees.{table_in}
use Rattle.demangle_cell_trees.specs.Steps.{component_in, step_in}
use Rattle.demangle_cell_trees.proofs.Ways.{any_step, found_here, node_steps}
use Rattle.demangle_cell_trees.proofs.found.found.Goals as goal

pub returns-then-step-lt-FIRST_NUMBERED : goal.returns-then-step-lt-FIRST_NUMBERED
returns-then-step-lt-FIRST_NUMBERED c =
    c.answer_of.ensures
    ∙ found_here c.args.sought c.args.node.arena.now (table_in c.args.subs.now) c.node_step-step.result
    (node_at c.args.node.arena.now c.args.node.at) c.if-step-lt-FIRST_NUMBERED.true
    (c.node_step-step.ensures ∙ (ap (λ k. step_in c.args.sought (tree_at c.args.node.arena.now k)) c.low_half.ensures
    ∙ sym (node_steps c.args.sought c.args.node.arena.now c.args.node.at)))

pub returns : goal.returns
returns c =
    c.answer_of-2.ensures
    ∙ (c.settled_by.ensures
    ∙ ap (settled (component_in c.args.sought) (table_in c.args.subs.now))
    (any_step c.args.subs.now.arena.now c.args.node.arena.now c.node_step-step.result
    c.if-step-lt-FIRST_NUMBERED.false
    ∙ (c.node_step-step.ensures
    ∙ (ap (λ k. step_in c.args.sought (tree_at c.args.node.arena.now k)) c.low_half.ensures
    ∙ sym (node_steps c.args.sought c.args.node.arena.now c.args.node.at)))))
