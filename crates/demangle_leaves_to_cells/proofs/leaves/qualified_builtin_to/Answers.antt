use Rattle.demangle_leaves_to_cells.proofs.leaves.qualified_builtin_to.Goals as goal

pub returns : goal.returns
returns c = c.two.ensures _ _ _ _ c.cv_qualifiers_to-first.ensures c.builtin_type_to-second.ensures
