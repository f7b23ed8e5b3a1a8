use Rattle.demangle_read.proofs.tie.+reader.Given as goal

abbrev pub decreases-type_handle : goal.decreases-type_handle
decreases-type_handle l = l.depth.levels

abbrev pub decreases-expression : goal.decreases-expression
decreases-expression l = l.depth.levels

abbrev pub decreases-template_arg : goal.decreases-template_arg
decreases-template_arg l = l.depth.levels

abbrev pub decreases-name : goal.decreases-name
decreases-name l = l.depth.levels

abbrev pub decreases-encoding : goal.decreases-encoding
decreases-encoding l = l.depth.levels

abbrev pub decreases-mangled_name : goal.decreases-mangled_name
decreases-mangled_name l = l.depth.levels
