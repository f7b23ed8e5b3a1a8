-- What each loop over two rows keeps: the rest of the rows is alike where the whole rows are.
use Rattle.std.proofs.Common.{◌≡◌, length, drop}
use Rattle.demangle_core.specs.Core.{same, trees}
use Rattle.demangle_nodes.specs.TreeNodes.{tag_of_expression, parts_of_expression, tag_of_template_arg, parts_of_template_arg, tag_of_unresolved_qualifier_level, parts_of_unresolved_qualifier_level}
use Rattle.demangle_nodes.proofs.same_parts.+same.Given as goal

abbrev pub invariant-same_expressions-loop-x : goal.invariant-same_expressions-loop-x
invariant-same_expressions-loop-x l = same (trees tag_of_expression parts_of_expression (drop (length l.yielded) l.xs)) (trees tag_of_expression parts_of_expression (drop (length l.yielded) l.ys)) ≡ same (trees tag_of_expression parts_of_expression l.xs) (trees tag_of_expression parts_of_expression l.ys)

abbrev pub invariant-same_argument_list-loop-x : goal.invariant-same_argument_list-loop-x
invariant-same_argument_list-loop-x l = same (trees tag_of_template_arg parts_of_template_arg (drop (length l.yielded) l.xs)) (trees tag_of_template_arg parts_of_template_arg (drop (length l.yielded) l.ys)) ≡ same (trees tag_of_template_arg parts_of_template_arg l.xs) (trees tag_of_template_arg parts_of_template_arg l.ys)

abbrev pub invariant-same_qualifier_levels-loop-x : goal.invariant-same_qualifier_levels-loop-x
invariant-same_qualifier_levels-loop-x l = same (trees tag_of_unresolved_qualifier_level parts_of_unresolved_qualifier_level (drop (length l.yielded) l.xs)) (trees tag_of_unresolved_qualifier_level parts_of_unresolved_qualifier_level (drop (length l.yielded) l.ys)) ≡ same (trees tag_of_unresolved_qualifier_level parts_of_unresolved_qualifier_level l.xs) (trees tag_of_unresolved_qualifier_level parts_of_unresolved_qualifier_level l.ys)
