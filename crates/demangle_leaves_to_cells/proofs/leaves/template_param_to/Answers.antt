use Rattle.demangle_leaves_to_cells.proofs.leaves.template_param_to.Goals as goal

pub returns : goal.returns
returns c = c.one.ensures _ _ c.number_to-first.ensures
