use Rattle.std.proofs.Common.{rules}
use Rattle.std.proofs.lemmas.List.{take_more}
use Rattle.demangle_leaf_nodes.specs.TreeLeaves.{parts_of_clone_suffix, tag_of_clone_suffix}
use Rattle.demangle_leaf_nodes.proofs.CopiedLists.{one_more}
use Rattle.demangle_leaf_nodes.proofs.copies.clone_suffixes.Goals as goal

pub loop-item-preserved : goal.loop-item-preserved
loop-item-preserved c = one_more tag_of_clone_suffix parts_of_clone_suffix c.args.items.now c.loop-item.copy.items c.push.new.self.items c.loop-item.item-index c.item-item.result c.in_ok-try_clone.field-0
    (search rules) (search (rules, take_more)) c.loop-item.invariant c.in_ok-try_clone.ensures.equal
