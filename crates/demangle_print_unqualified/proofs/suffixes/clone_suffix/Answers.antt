use Rattle.std.proofs.Common.{ap, map, refl, sym, ◌∙◌}
use Rattle.demangle_leaf_nodes.specs.TreeLeaves.{tree_of_signed}
use Rattle.demangle_printing.specs.Items.{spelled_itself, t, ◌·◌}
use Rattle.demangle_printing.specs.Lines.{line_steps}
use Rattle.demangle_printing.specs.Print.{body}
use Rattle.demangle_printing.specs.Step.{Step}
use Rattle.demangle_meets.proofs.Acts.{meets_block, meets_done, meets_text}
use Rattle.demangle_meets.proofs.Parts.{meets_at, meets_part, prints_deep, prints_node}
use Rattle.demangle_meets.specs.Place.{world_of}
use Rattle.demangle_print_parts.proofs.Listed.{numbers_listed}
use Rattle.demangle_print_parts.specs.Pieces.{each_of}
use Rattle.demangle_print_unqualified.proofs.suffixes.clone_suffix.Goals as goal

pub returns-in_default : goal.returns-in_default
returns-in_default g c = λ sc. prints_deep refl c.in_default.ensures

pub returns : goal.returns
unfolding body line_steps
returns g c =
    λ sc. prints_node refl c.in-Some.ensures.0
    (meets_text c.text.ensures (meets_part (c.clone_type_identifier.ensures sc)
    (meets_block
    (meets_at (λ xs. each_of (world_of (g.B.Below.at c.in-Some.below).refers)
    ((t "." · spelled_itself) Step.done) xs sc)
    (ap (map tree_of_signed) c.as_slice.ensures.value ∙ sym (numbers_listed
    (g.B.Below.at c.in-Some.below).refers c.args.node.now.1.items))
    (c.clone_numbers.ensures (g.B.Below.at c.in-Some.below) sc))
    (meets_text c.text-2.ensures meets_done))))
