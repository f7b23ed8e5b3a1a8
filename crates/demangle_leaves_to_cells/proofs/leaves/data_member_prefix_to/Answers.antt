use Rattle.demangle_leaves_to_cells.proofs.leaves.data_member_prefix_to.Goals as goal

pub returns : goal.returns
returns c = c.one.ensures _ _ c.source_name_to-first.ensures
