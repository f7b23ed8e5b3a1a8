use Rattle.std.proofs.Common.{◌∙◌}
use Rattle.demangle_leaf_nodes.specs.TreeLeaves.{tag_of_resource_name, parts_of_resource_name}
use Rattle.demangle_leaf_nodes.proofs.Same.{list_of_trees}
use Rattle.demangle_nodes.proofs.same_parts.same_resource_names.Goals as goal

pub returns : goal.returns
returns c = c.eq.ensures ∙ list_of_trees tag_of_resource_name parts_of_resource_name c.args.xs.now c.args.ys.now
