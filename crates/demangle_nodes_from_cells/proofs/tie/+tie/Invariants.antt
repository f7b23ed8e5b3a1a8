use Rattle.demangle_nodes_from_cells.proofs.tie.+tie.Given as goal

abbrev pub decreases-expression_from : goal.decreases-expression_from
decreases-expression_from l = l.id

abbrev pub decreases-template_arg_from : goal.decreases-template_arg_from
decreases-template_arg_from l = l.id

abbrev pub decreases-name_from : goal.decreases-name_from
decreases-name_from l = l.id

abbrev pub decreases-encoding_from : goal.decreases-encoding_from
decreases-encoding_from l = l.id

abbrev pub decreases-mangled_name_from : goal.decreases-mangled_name_from
decreases-mangled_name_from l = l.id
