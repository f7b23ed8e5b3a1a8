use Rattle.std.proofs.Common.{◌∙◌}
use Rattle.demangle_leaf_nodes.specs.TreeLeaves.{tag_of_clone_suffix, parts_of_clone_suffix}
use Rattle.demangle_leaf_nodes.proofs.Same.{list_of_trees}
use Rattle.demangle_nodes.proofs.same_parts.same_clone_suffixes.Goals as goal

pub returns : goal.returns
returns c = c.eq.ensures ∙ list_of_trees tag_of_clone_suffix parts_of_clone_suffix c.args.xs.now c.args.ys.now
