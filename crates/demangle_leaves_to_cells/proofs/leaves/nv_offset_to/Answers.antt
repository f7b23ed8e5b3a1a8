use Rattle.demangle_leaves_to_cells.proofs.leaves.nv_offset_to.Goals as goal

pub returns : goal.returns
returns c = c.one.ensures _ _ c.signed_to-first.ensures
