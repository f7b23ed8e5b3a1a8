use Rattle.demangle_context.specs.PageOf.{page}
use Rattle.demangle_leaf_nodes.specs.TreeLeaves.{tree_of_unnamed_type_name}
use Rattle.demangle_meets.proofs.Parts.{meets_deep}
use Rattle.demangle_print_unqualified.proofs.SourceOr.{leaf_named, leaf_unnamed}
use Rattle.demangle_print_unqualified.proofs.unnamed.unnamed_leaf.Goals as goal

pub returns-in_default : goal.returns-in_default
returns-in_default g c = λ sc. meets_deep c.in_default.ensures

pub returns-in-Some-source_name : goal.returns-in-Some-source_name
unfolding page
returns-in-Some-source_name g c =
    λ sc. leaf_named (tree_of_unnamed_type_name c.args.node.now) sc _ c.in-Some.ensures.0
    c.in-Some-source_name.ensures c.text.ensures

pub returns-in-None : goal.returns-in-None
unfolding page
returns-in-None g c =
    λ sc. leaf_unnamed (tree_of_unnamed_type_name c.args.node.now) sc c.in-Some.ensures.0
    c.in-None.ensures (c.unnamed_type_steps.ensures (g.B.Below.at c.in-Some._below) sc)
