use Rattle.std.proofs.Common.{Some, sym, ◌∙◌}
use Rattle.demangle_leaf_nodes.specs.TreeLeaves.{tree_of_cv_qualifiers}
use Rattle.demangle_printing.specs.Act.{block, done}
use Rattle.demangle_printing.specs.Reader.{chosen}
use Rattle.demangle_printing.specs.Rules.{line_of}
use Rattle.demangle_meets.specs.Place.{world_of}
use Rattle.demangle_meets.proofs.Acts.{meets_done}
use Rattle.demangle_meets.proofs.Parts.{meets_at, meets_part}
use Rattle.demangle_print_inner.proofs.inside.qualifiers_if.Goals as goal

pub returns-then-is_qualified : goal.returns-then-is_qualified
returns-then-is_qualified g c = λ sc.
    meets_at
    (λ b. chosen b (block (line_of (world_of (g.B.Below.at c.args.below).refers) (Some
    (tree_of_cv_qualifiers c.args.node.now)) sc) done) done)
    (sym c.if-is_qualified.true ∙ c.is_qualified.ensures (g.B.Below.at c.args.below).refers)
    (meets_part (c.cv_qualifiers.ensures sc) meets_done)

pub returns-else-is_qualified : goal.returns-else-is_qualified
returns-else-is_qualified g c = λ sc.
    meets_at
    (λ b. chosen b (block (line_of (world_of (g.B.Below.at c.args.below).refers) (Some
    (tree_of_cv_qualifiers c.args.node.now)) sc) done) done)
    (sym c.if-is_qualified.false ∙ c.is_qualified.ensures (g.B.Below.at c.args.below).refers) meets_done
