use Rattle.std.proofs.Common.{◌∙◌}
use Rattle.demangle_cell_trees.specs.ArenaTrees.{tree_at}
use Rattle.demangle_cell_trees.proofs.Steps.{leaf_whole, special_whole, prefix_partly, type_partly}
use Rattle.demangle_cell_trees.proofs.lookups.component_step.Goals as goal

pub returns-in-LeafName : goal.returns-in-LeafName
returns-in-LeafName c =
    c.node_step.ensures ∙ leaf_whole c.args.sought (tree_at c.args.arena.now c.args.id) c.in-LeafName.is

pub returns-in-Special : goal.returns-in-Special
returns-in-Special c =
    c.node_step-in-Special.ensures
    ∙ special_whole c.args.sought (tree_at c.args.arena.now c.args.id) c.in-Special.is

pub returns-in-PrefixArguments : goal.returns-in-PrefixArguments
returns-in-PrefixArguments c =
    c.arguments_step.ensures ∙ prefix_partly c.args.sought c.args.arena.now c.args.id c.in-PrefixArguments.is

pub returns-in-TypeArguments : goal.returns-in-TypeArguments
returns-in-TypeArguments c =
    c.arguments_step-in-TypeArguments.ensures
    ∙ type_partly c.args.sought c.args.arena.now c.args.id c.in-TypeArguments.is
