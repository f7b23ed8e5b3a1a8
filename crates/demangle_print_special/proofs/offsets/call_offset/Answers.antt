use Rattle.std.proofs.Common.{refl, rules}
use Rattle.demangle_leaf_nodes.specs.TreeLeaves.{tree_of_call_offset}
use Rattle.demangle_printing.specs.Lines.{line_steps}
use Rattle.demangle_printing.specs.Print.{body}
use Rattle.demangle_meets.proofs.Acts.{meets_done, meets_text}
use Rattle.demangle_meets.proofs.Lines.{meets_said}
use Rattle.demangle_meets.proofs.Parts.{prints_at, prints_deep, prints_node}
use Rattle.demangle_print_parts.proofs.Decimals.{numbered}
use Rattle.demangle_print_special.proofs.Itself.{offset_is_itself}
use Rattle.demangle_print_special.proofs.offsets.call_offset.Goals as goal

pub returns-in_default : goal.returns-in_default
returns-in_default g c = λ sc. prints_deep (offset_is_itself _ c.args.node.now) c.in_default.ensures

pub returns-in-NonVirtual : goal.returns-in-NonVirtual
unfolding body line_steps
returns-in-NonVirtual g c =
    λ sc. prints_at tree_of_call_offset c.in-NonVirtual.is (prints_node refl c.in-Some.ensures.0
    (meets_text c.text.ensures
    (meets_said (numbered c.in-NonVirtual.offset.0 (search rules) c.number.ensures)
    (meets_text c.text-in-NonVirtual.ensures meets_done))))

pub returns-in-Virtual : goal.returns-in-Virtual
unfolding body line_steps
returns-in-Virtual g c =
    λ sc. prints_at tree_of_call_offset c.in-Virtual.is (prints_node refl c.in-Some.ensures.0
    (meets_text c.text-in-Virtual.ensures
    (meets_said (numbered c.in-Virtual.offset.0 (search rules) c.number-in-Virtual.ensures)
    (meets_text c.text-in-Virtual-2.ensures
    (meets_said (numbered c.in-Virtual.offset.1 (search rules) c.number-in-Virtual-2.ensures)
    (meets_text c.text-in-Virtual-3.ensures meets_done))))))
