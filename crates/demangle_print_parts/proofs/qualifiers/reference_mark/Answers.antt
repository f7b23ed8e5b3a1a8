use Rattle.std.proofs.Common.{Some, refl, sym}
use Rattle.demangle_leaf_nodes.specs.TreeLeaves.{tree_of_option, tree_of_ref_qualifier}
use Rattle.demangle_printing.specs.Act.{block, done, space}
use Rattle.demangle_printing.specs.Rules.{line_of}
use Rattle.demangle_meets.specs.Place.{world_of}
use Rattle.demangle_meets.proofs.Acts.{meets_block, meets_done, meets_space}
use Rattle.demangle_meets.proofs.Parts.{meets_at, prints_same}
use Rattle.demangle_print_parts.specs.Pieces.{when_there}
use Rattle.demangle_print_parts.proofs.qualifiers.reference_mark.Goals as goal

pub returns-in-Some : goal.returns-in-Some
returns-in-Some g c = λ sc.
    meets_at
    (λ m. when_there (world_of (g.B.Below.at c.args.below).refers) (tree_of_option tree_of_ref_qualifier m)
    (space (block (line_of (world_of (g.B.Below.at c.args.below).refers) (Some (tree_of_option tree_of_ref_qualifier m))
    sc) done)))
    (sym c.in-Some.is)
    (meets_space c.space.ensures (meets_block
    (prints_same {x = tree_of_option tree_of_ref_qualifier (Some c.in-Some.word)} refl
    (c.ref_qualifier.ensures sc)).meets
    meets_done))

pub returns-in_default : goal.returns-in_default
returns-in_default g c = λ sc.
    meets_at
    (λ m. when_there (world_of (g.B.Below.at c.args.below).refers) (tree_of_option tree_of_ref_qualifier m)
    (space (block (line_of (world_of (g.B.Below.at c.args.below).refers) (Some (tree_of_option tree_of_ref_qualifier m))
    sc) done)))
    (sym c.in_default.is) meets_done
