use Rattle.demangle_leaves_to_cells.proofs.leaves.pointer_to_member_type_to.Goals as goal

pub returns : goal.returns
returns c = c.two.ensures _ _ _ _ c.type_handle_to-first.ensures c.type_handle_to-second.ensures
