use Rattle.std.proofs.Common.{[], sym}
use Rattle.demangle_leaf_nodes.specs.TreeLeaves.{tree_of_leaf_name}
use Rattle.demangle_printing.specs.Rules.{leaf_seen}
use Rattle.demangle_meets.specs.Place.{world_of}
use Rattle.demangle_meets.proofs.Acts.{meets_done, meets_text}
use Rattle.demangle_meets.proofs.Parts.{meets_at}
use Rattle.demangle_print_unqualified.proofs.leaf_names.leaf_name.Goals as goal

pub returns-in-SourceName : goal.returns-in-SourceName
returns-in-SourceName g c =
    meets_at
    (λ x. leaf_seen (world_of (g.B.Below.at c.args.below).refers) (tree_of_leaf_name x)
    ((world_of (g.B.Below.at c.args.below).refers).look (tree_of_leaf_name x)))
    (sym c.in-SourceName.is) (c.source_name.ensures []).meets

pub returns-in-WellKnownComponent : goal.returns-in-WellKnownComponent
returns-in-WellKnownComponent g c =
    meets_at
    (λ x. leaf_seen (world_of (g.B.Below.at c.args.below).refers) (tree_of_leaf_name x)
    ((world_of (g.B.Below.at c.args.below).refers).look (tree_of_leaf_name x)))
    (sym c.in-WellKnownComponent.is) (meets_text (rw c.component_leaf.ensures at c.text.ensures) meets_done)

pub returns-in-Closure : goal.returns-in-Closure
returns-in-Closure g c =
    meets_at
    (λ x. leaf_seen (world_of (g.B.Below.at c.args.below).refers) (tree_of_leaf_name x)
    ((world_of (g.B.Below.at c.args.below).refers).look (tree_of_leaf_name x)))
    (sym c.in-Closure.is) c.closure_type_name.ensures.meets

pub returns-in-UnnamedType : goal.returns-in-UnnamedType
returns-in-UnnamedType g c =
    meets_at
    (λ x. leaf_seen (world_of (g.B.Below.at c.args.below).refers) (tree_of_leaf_name x)
    ((world_of (g.B.Below.at c.args.below).refers).look (tree_of_leaf_name x)))
    (sym c.in-UnnamedType.is) (c.unnamed_leaf.ensures [])
