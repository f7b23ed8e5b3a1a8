use Rattle.std.proofs.Common.{rules}
use Rattle.std.proofs.lemmas.List.{take_more}
use Rattle.demangle_nodes.specs.TreeNodes.{parts_of_template_arg, tag_of_template_arg}
use Rattle.demangle_leaves_from_cells.proofs.Rows.{tree_more}
use Rattle.demangle_nodes_from_cells.proofs.Held.{holds_of}
use Rattle.demangle_nodes_from_cells.proofs.lists.template_arg_list_of.Goals as goal

pub loop-id-preserved : goal.loop-id-preserved
loop-id-preserved g c = λ F h. tree_more tag_of_template_arg parts_of_template_arg
    F c.args.ids.now c.loop-id.id-index _ c.loop-id.list.items c.in_ok-list.list.items c.in_ok-held.next
    (search rules) (search (rules, take_more)) (c.loop-id.invariant F h)
    (holds_of _ _ _ c.in_ok-held.ensures.second c.template_arg.ensures.made F h)
