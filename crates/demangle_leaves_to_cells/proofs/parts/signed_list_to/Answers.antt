use Rattle.demangle_leaves_to_cells.proofs.parts.signed_list_to.Goals as goal

pub returns : goal.returns
returns c = c.gather.ensures _ _ c.waiting-from.ensures c.wait_signed_list-waited.ensures
