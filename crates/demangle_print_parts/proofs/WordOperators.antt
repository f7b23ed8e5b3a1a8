-- Names of operators are printed as they are; and a type with its template arguments in scope.
use Rattle.std.proofs.Common.{◌≡◌, Option, Some, refl, subst}
use Rattle.demangle_core.specs.Core.{Core}
use Rattle.demangle_core.specs.Lookups.{as_type}
use Rattle.demangle_leaf_nodes.specs.declared.leaves.OperatorName.{OperatorName}
use Rattle.demangle_leaf_nodes.specs.declared.leaves.OperatorName.TheVariants as of_operator
use Rattle.demangle_leaf_nodes.specs.TreeLeaves.{tree_of_operator_name}
use Rattle.demangle_printing.specs.Rules.{args_of, line_of, of_part}
use Rattle.demangle_printing.specs.Scope.{Scope, with_args}
use Rattle.demangle_meets.specs.Page.{Page}
use Rattle.demangle_meets.specs.Place.{Place, Refers, world_of}
use Rattle.demangle_meets.specs.Meets.{Meets, Prints}

pub operator_is_itself : (r : Refers) (x : OperatorName) →
    of_part (world_of r) (Some (tree_of_operator_name x)) ≡ Some (tree_of_operator_name x)
operator_is_itself r (of_operator.Simple a) = refl
operator_is_itself r (of_operator.Cast a) = refl
operator_is_itself r (of_operator.Conversion a) = refl
operator_is_itself r (of_operator.Literal a) = refl
operator_is_itself r (of_operator.VendorExtension a b) = refl

-- what was looked up is in scope
pub prints_in_scope : {p : Place} {a b : Page} {x : Core} (sc : Scope Core) (found : Option Core) →
    found ≡ args_of (world_of p.refers) as_type (Some x) → Prints p a b x (with_args found sc) →
    Meets p a b (line_of (world_of p.refers) (Some x) (with_args (args_of (world_of p.refers) as_type (Some x)) sc))
prints_in_scope {p} {a} {b} {x} sc found e d =
    subst (λ z. Meets p a b (line_of (world_of p.refers) (Some x) (with_args z sc))) e d.meets
