use Rattle.std.proofs.Common.{rules}
use Rattle.std.proofs.lemmas.List.{drop_more}
use Rattle.demangle_leaf_nodes.specs.TreeLeaves.{tree_of_clone_suffix}
use Rattle.demangle_printing.specs.Items.{itself}
use Rattle.demangle_printing.specs.Step.{Step}
use Rattle.demangle_meets.proofs.Acts.{meets_done}
use Rattle.demangle_meets.proofs.Parts.{meets_part}
use Rattle.demangle_print_parts.proofs.Each.{each_begins, each_ends, each_read}
use Rattle.demangle_print_unqualified.proofs.suffixes.each_suffix.Goals as goal

pub loop-node-init : goal.loop-node-init
loop-node-init g c = λ sc. each_begins (itself Step.done) sc tree_of_clone_suffix _

pub loop-node-preserved : goal.loop-node-preserved
loop-node-preserved g c =
    λ sc. each_read (itself Step.done) sc tree_of_clone_suffix c.args.nodes.now c.loop-node.node-index
    c.node-item.result (c.loop-node.invariant sc)
    (meets_part {sc = sc} (c.clone_suffix.ensures sc) meets_done) (search (rules, drop_more))

pub returns : goal.returns
returns g c =
    λ sc. each_ends (itself Step.done) sc tree_of_clone_suffix _ _ (c.loop-node.invariant sc) c.loop-node-test.false
