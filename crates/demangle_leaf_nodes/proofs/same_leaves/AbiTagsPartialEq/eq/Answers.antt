use Rattle.std.proofs.Common.{◌∙◌}
use Rattle.demangle_leaf_nodes.specs.TreeLeaves.{tag_of_abi_tag, parts_of_abi_tag}
use Rattle.demangle_leaf_nodes.proofs.Same.{and_true, list_of_trees}
use Rattle.demangle_leaf_nodes.proofs.same_leaves.AbiTagsPartialEq.eq.Goals as goal

pub returns : goal.returns
returns c = rw (and_true, and_true) (c.eq.ensures ∙ list_of_trees tag_of_abi_tag parts_of_abi_tag c.args.self.now.0.items c.args.other.now.0.items)
