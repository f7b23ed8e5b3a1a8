use Rattle.std.proofs.Common.{get_or, rules}
use Rattle.std.proofs.lemmas.List.{drop_more}
use Rattle.demangle_leaf_nodes.specs.TreeLeaves.{tree_of_signed}
use Rattle.demangle_printing.specs.Items.{spelled_itself, t, ◌·◌}
use Rattle.demangle_printing.specs.Step.{Step}
use Rattle.demangle_meets.proofs.Acts.{meets_done, meets_text}
use Rattle.demangle_meets.proofs.Lines.{meets_said}
use Rattle.demangle_print_parts.proofs.Decimals.{numbered}
use Rattle.demangle_print_parts.proofs.Each.{each_begins, each_ends, each_read}
use Rattle.demangle_print_unqualified.proofs.suffixes.clone_numbers.Goals as goal

pub loop-n-init : goal.loop-n-init
loop-n-init g c = λ p sc. each_begins ((t "." · spelled_itself) Step.done) sc tree_of_signed _

pub loop-n-preserved : goal.loop-n-preserved
loop-n-preserved g c =
    λ p sc. each_read ((t "." · spelled_itself) Step.done) sc tree_of_signed c.args.numbers.now c.loop-n.n-index
    (get_or c.args.numbers.now c.loop-n.n-index _) (c.loop-n.invariant p sc)
    (meets_text c.text.ensures (meets_said (numbered _ (search rules) c.number.ensures) meets_done))
    (drop_more c.args.numbers.now c.loop-n.n-index _ c.loop-n-test.true)

pub returns : goal.returns
returns g c =
    λ p sc. each_ends ((t "." · spelled_itself) Step.done) sc tree_of_signed _ _ (c.loop-n.invariant p sc)
    c.loop-n-test.false
