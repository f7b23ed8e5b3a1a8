use Rattle.std.proofs.Common.{refl}
use Rattle.demangle_leaf_nodes.specs.TreeLeaves.{tree_of_type_handle}
use Rattle.demangle_entries.specs.TreeEntries.{tree_of_vector_type}
use Rattle.demangle_printing.specs.Print.{body}
use Rattle.demangle_printing.specs.Lines.{line_steps}
use Rattle.demangle_meets.specs.Place.{world_of}
use Rattle.demangle_meets.proofs.Parts.{meets_at, prints_at, prints_deep, prints_node}
use Rattle.demangle_scope.specs.ScopeOf.{scope_of}
use Rattle.demangle_print_types.specs.Pieces.{in_midst}
use Rattle.demangle_print_types.proofs.Itself.{vector_is_itself}
use Rattle.demangle_print_types.proofs.types.vector_type.Goals as goal

pub returns-in_default : goal.returns-in_default
returns-in_default g c = prints_deep (vector_is_itself _ c.args.node.now) c.in_default.ensures

pub returns-in-DimensionNumber : goal.returns-in-DimensionNumber
unfolding body line_steps
returns-in-DimensionNumber g c =
    prints_at tree_of_vector_type c.in-DimensionNumber.is
    (prints_node refl c.in-Some.ensures.0
    (meets_at
    (λ x. in_midst (world_of (g.B.Below.at c.in-Some.below).refers) (tree_of_vector_type x)
    (tree_of_type_handle c.in-DimensionNumber.ty) (scope_of c.args.scope))
    c.in-DimensionNumber.is c.around.ensures))

pub returns-in-DimensionExpression : goal.returns-in-DimensionExpression
unfolding body line_steps
returns-in-DimensionExpression g c =
    prints_at tree_of_vector_type c.in-DimensionExpression.is
    (prints_node refl c.in-Some.ensures.0
    (meets_at
    (λ x. in_midst (world_of (g.B.Below.at c.in-Some.below).refers) (tree_of_vector_type x)
    (tree_of_type_handle c.in-DimensionExpression.ty) (scope_of c.args.scope))
    c.in-DimensionExpression.is c.around-in-DimensionExpression.ensures))
