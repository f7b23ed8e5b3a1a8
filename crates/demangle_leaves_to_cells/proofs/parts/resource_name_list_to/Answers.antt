use Rattle.demangle_leaves_to_cells.proofs.parts.resource_name_list_to.Goals as goal

pub returns : goal.returns
returns c = c.gather.ensures _ _ c.waiting-from.ensures c.wait_resource_name_list-waited.ensures
