use Rattle.demangle_leaves_to_cells.proofs.leaves.unscoped_template_name_to.Goals as goal

pub returns : goal.returns
returns c = c.one.ensures _ _ c.unscoped_name_to-first.ensures
