use Rattle.demangle_leaves_to_cells.proofs.leaves.resource_name_to.Goals as goal

pub returns : goal.returns
returns c = c.one.ensures _ _ c.place_to-place.ensures
