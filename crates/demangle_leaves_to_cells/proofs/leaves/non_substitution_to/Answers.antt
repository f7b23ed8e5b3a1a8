use Rattle.demangle_leaves_to_cells.proofs.leaves.non_substitution_to.Goals as goal

pub returns : goal.returns
returns c = c.reference_to.ensures
