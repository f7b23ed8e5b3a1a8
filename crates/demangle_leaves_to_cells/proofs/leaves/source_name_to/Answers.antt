use Rattle.demangle_leaves_to_cells.proofs.leaves.source_name_to.Goals as goal

pub returns : goal.returns
returns c = c.one.ensures _ _ c.identifier_to-first.ensures
