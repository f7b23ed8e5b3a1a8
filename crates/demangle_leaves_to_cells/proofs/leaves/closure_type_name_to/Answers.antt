use Rattle.demangle_leaves_to_cells.proofs.leaves.closure_type_name_to.Goals as goal

pub returns : goal.returns
returns c = c.two.ensures _ _ _ _ c.lambda_sig_to-first.ensures c.optional_number_to-second.ensures
