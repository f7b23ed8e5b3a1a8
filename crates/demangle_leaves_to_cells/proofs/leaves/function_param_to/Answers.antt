use Rattle.demangle_leaves_to_cells.proofs.leaves.function_param_to.Goals as goal

pub returns : goal.returns
returns c = c.three.ensures _ _ _ _ _ _ c.number_to-first.ensures c.cv_qualifiers_to-second.ensures
    c.optional_number_to-third.ensures
