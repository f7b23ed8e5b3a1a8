use Rattle.demangle_leaves_to_cells.proofs.leaves.unnamed_type_name_to.Goals as goal

pub returns : goal.returns
returns c = c.one.ensures _ _ c.optional_number_to-first.ensures
