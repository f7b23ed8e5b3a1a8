use Rattle.std.proofs.Common.{sym, ◌∙◌}
use Rattle.demangle_leaf_nodes.specs.TreeLeaves.{tree_of_cv_qualifiers}
use Rattle.demangle_print_names.proofs.Qualified.{not_qualified, not_shown, shown}
use Rattle.demangle_print_names.proofs.nested.shown_qualifiers.Goals as goal

pub returns-then-is_on : goal.returns-then-is_on
returns-then-is_on g c =
    λ sc k. shown (g.B.Below.at c.args.below) (tree_of_cv_qualifiers c.args.node.now) sc k
    (sym (c.is_qualified-is_qualified.ensures (g.B.Below.at c.args.below).refers) ∙ c.if-is_qualified.true)
    (sym c.is_on.ensures ∙ c.if-is_on.true) (c.cv_qualifiers.ensures sc)

pub returns-else-is_on : goal.returns-else-is_on
returns-else-is_on g c =
    λ sc k. not_shown (g.B.Below.at c.args.below) (tree_of_cv_qualifiers c.args.node.now) sc k
    (sym (c.is_qualified-is_qualified.ensures (g.B.Below.at c.args.below).refers) ∙ c.if-is_qualified.true)
    (sym c.is_on.ensures ∙ c.if-is_on.false)

pub returns-else-is_qualified : goal.returns-else-is_qualified
returns-else-is_qualified g c =
    λ sc k. not_qualified (g.B.Below.at c.args.below) (tree_of_cv_qualifiers c.args.node.now) sc k
    (sym (c.is_qualified-is_qualified.ensures (g.B.Below.at c.args.below).refers) ∙ c.if-is_qualified.false)
