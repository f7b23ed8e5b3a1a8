use Rattle.demangle_leaves_to_cells.proofs.leaves.v_offset_to.Goals as goal

pub returns : goal.returns
returns c = c.two.ensures _ _ _ _ c.signed_to-first.ensures c.signed_to-second.ensures
