use Rattle.std.proofs.Common.{get_or}
use Rattle.std.proofs.lemmas.List.{drop_more}
use Rattle.demangle_leaf_nodes.specs.TreeLeaves.{tree_of_abi_tag}
use Rattle.demangle_printing.specs.Items.{itself}
use Rattle.demangle_printing.specs.Step.{Step}
use Rattle.demangle_meets.proofs.Acts.{meets_done}
use Rattle.demangle_meets.proofs.Parts.{meets_part}
use Rattle.demangle_print_parts.proofs.Each.{each_begins, each_ends, each_read}
use Rattle.demangle_print_unqualified.proofs.unqualified.each_tag.Goals as goal

pub loop-node-init : goal.loop-node-init
loop-node-init g c = λ sc. each_begins (itself Step.done) sc tree_of_abi_tag _

pub loop-node-preserved : goal.loop-node-preserved
loop-node-preserved g c =
    λ sc. each_read (itself Step.done) sc tree_of_abi_tag c.args.nodes.now c.loop-node.node-index
    (get_or c.args.nodes.now c.loop-node.node-index _) (c.loop-node.invariant sc)
    (meets_part {sc = sc} (c.abi_tag.ensures sc) meets_done)
    (drop_more c.args.nodes.now c.loop-node.node-index _ c.loop-node-test.true)

pub returns : goal.returns
returns g c =
    λ sc. each_ends (itself Step.done) sc tree_of_abi_tag _ _ (c.loop-node.invariant sc) c.loop-node-test.false
