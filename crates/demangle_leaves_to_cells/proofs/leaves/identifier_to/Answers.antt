use Rattle.demangle_leaves_to_cells.proofs.leaves.identifier_to.Goals as goal

pub returns : goal.returns
returns c = c.one.ensures _ _ c.place_to-place.ensures
