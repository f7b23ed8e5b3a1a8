use Rattle.std.proofs.Common.{◌∙◌}
use Rattle.demangle_leaf_nodes.specs.TreeLeaves.{tag_of_type_handle, parts_of_type_handle}
use Rattle.demangle_leaf_nodes.proofs.Same.{and_true, list_of_trees}
use Rattle.demangle_leaf_nodes.proofs.same_names.LambdaSigPartialEq.eq.Goals as goal

pub returns : goal.returns
returns c = rw (and_true, and_true) (c.eq.ensures ∙ list_of_trees tag_of_type_handle parts_of_type_handle c.args.self.now.0.items c.args.other.now.0.items)
