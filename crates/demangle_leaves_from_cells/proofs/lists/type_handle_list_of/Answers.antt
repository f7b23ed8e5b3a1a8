use Rattle.std.proofs.Common.{rules}
use Rattle.std.proofs.lemmas.List.{take_more}
use Rattle.demangle_leaf_nodes.specs.TreeLeaves.{parts_of_type_handle, tag_of_type_handle}
use Rattle.demangle_leaves_from_cells.proofs.Rows.{tree_more}
use Rattle.demangle_leaves_from_cells.proofs.lists.type_handle_list_of.Goals as goal

pub loop-id-preserved : goal.loop-id-preserved
loop-id-preserved c = λ F h. tree_more tag_of_type_handle parts_of_type_handle
    F c.args.ids.now c.loop-id.id-index _ c.loop-id.list.items c.push.new.self.items
    c.in_ok-type_handle_from.field-0 (search rules) (search (rules, take_more)) (c.loop-id.invariant F h)
    (c.in_ok-type_handle_from.ensures.made F h)
