use Rattle.std.proofs.Common.{ap, map, refl, sym, ◌∙◌}
use Rattle.demangle_leaf_nodes.specs.TreeLeaves.{parts_of_abi_tag, tag_of_abi_tag, tree_of_abi_tag}
use Rattle.demangle_printing.specs.Items.{itself}
use Rattle.demangle_printing.specs.Lines.{line_steps}
use Rattle.demangle_printing.specs.Print.{body}
use Rattle.demangle_printing.specs.Step.{Step}
use Rattle.demangle_meets.proofs.Acts.{meets_block, meets_done}
use Rattle.demangle_meets.proofs.Parts.{meets_at, prints_deep, prints_node}
use Rattle.demangle_meets.specs.Place.{world_of}
use Rattle.demangle_print_parts.proofs.Listed.{trees_listed}
use Rattle.demangle_print_parts.specs.Pieces.{each_of}
use Rattle.demangle_print_unqualified.proofs.unqualified.abi_tags.Goals as goal

pub returns-in_default : goal.returns-in_default
returns-in_default g c = λ sc. prints_deep refl c.in_default.ensures

pub returns : goal.returns
unfolding body line_steps
returns g c =
    λ sc. prints_node refl c.in-Some.ensures.0
    (meets_block
    (meets_at (λ xs. each_of (world_of (g.B.Below.at c.in-Some.below).refers) (itself Step.done) xs sc)
    (ap (map tree_of_abi_tag) c.as_slice.ensures.value ∙ sym (trees_listed
    (g.B.Below.at c.in-Some.below).refers tag_of_abi_tag parts_of_abi_tag c.args.node.now.0.items))
    (c.each_tag.ensures sc)) meets_done)
