-- Nodes that are printed as they are: neither optional parts nor handles nor components. What is seen of each is its
-- own variant.
use Rattle.std.proofs.Common.{◌≡◌, false, Some, refl, ◌∙◌, ap}
use Rattle.demangle_leaf_nodes.specs.declared.leaves.FunctionParam.{FunctionParam}
use Rattle.demangle_nodes.specs.declared.nodes.Expression.{Expression}
use Rattle.demangle_nodes.specs.declared.nodes.Expression.TheVariants as of_expression
use Rattle.demangle_nodes.specs.declared.nodes.TemplateArg.{TemplateArg}
use Rattle.demangle_nodes.specs.declared.nodes.TemplateArg.TheVariants as of_template_arg
use Rattle.demangle_nodes.specs.declared.nodes.UnresolvedName.{UnresolvedName}
use Rattle.demangle_nodes.specs.declared.nodes.UnresolvedName.TheVariants as of_unresolved_name
use Rattle.demangle_nodes.specs.declared.nodes.UnresolvedQualifierLevel.{UnresolvedQualifierLevel}
use Rattle.demangle_nodes.specs.declared.nodes.UnresolvedQualifierLevel.{UnresolvedQualifierLevel'}
use Rattle.demangle_nodes.specs.declared.nodes.SimpleId.{SimpleId, SimpleId'}
use Rattle.demangle_nodes.specs.declared.nodes.BaseUnresolvedName.{BaseUnresolvedName}
use Rattle.demangle_nodes.specs.declared.nodes.BaseUnresolvedName.TheVariants as of_base_unresolved_name
use Rattle.demangle_nodes.specs.declared.nodes.DestructorName.{DestructorName}
use Rattle.demangle_nodes.specs.declared.nodes.DestructorName.TheVariants as of_destructor_name
use Rattle.demangle_nodes.specs.declared.nodes.ExprPrimary.{ExprPrimary}
use Rattle.demangle_nodes.specs.declared.nodes.ExprPrimary.TheVariants as of_expr_primary
use Rattle.demangle_nodes.specs.declared.nodes.FoldExpr.{FoldExpr}
use Rattle.demangle_nodes.specs.declared.nodes.FoldExpr.TheVariants as of_fold_expr
use Rattle.demangle_nodes.specs.TreeNodes.{tag_of_expression, parts_of_expression, tree_of_expression}
use Rattle.demangle_nodes.specs.TreeNodes.{parts_of_template_arg, tree_of_template_arg}
use Rattle.demangle_nodes.specs.TreeNodes.{parts_of_unresolved_name, tree_of_unresolved_name}
use Rattle.demangle_nodes.specs.TreeNodes.{parts_of_unresolved_qualifier_level, tree_of_unresolved_qualifier_level}
use Rattle.demangle_nodes.specs.TreeNodes.{parts_of_simple_id, tree_of_simple_id}
use Rattle.demangle_nodes.specs.TreeNodes.{parts_of_base_unresolved_name, tree_of_base_unresolved_name}
use Rattle.demangle_nodes.specs.TreeNodes.{parts_of_destructor_name, tree_of_destructor_name}
use Rattle.demangle_nodes.specs.TreeNodes.{tag_of_expr_primary, parts_of_expr_primary, tree_of_expr_primary}
use Rattle.demangle_nodes.specs.TreeNodes.{parts_of_fold_expr, tree_of_fold_expr}
use Rattle.demangle_entries.specs.declared.entries.UnresolvedType.{UnresolvedType}
use Rattle.demangle_entries.specs.declared.entries.UnresolvedType.TheVariants as of_unresolved_type
use Rattle.demangle_entries.specs.TreeEntries.{tree_of_unresolved_type}
use Rattle.demangle_printing.specs.Reader.{is_bare, is_external}
use Rattle.demangle_printing.specs.Rules.{of_part, tag}
use Rattle.demangle_meets.specs.Place.{Refers, world_of}

pub expression_is_itself : (r : Refers) (x : Expression) →
    of_part (world_of r) (Some (tree_of_expression x)) ≡ Some (tree_of_expression x)
unfolding parts_of_expression
expression_is_itself r (of_expression.Unary' _ _ _) = refl
expression_is_itself r _ = refl

pub template_arg_is_itself : (r : Refers) (x : TemplateArg) →
    of_part (world_of r) (Some (tree_of_template_arg x)) ≡ Some (tree_of_template_arg x)
unfolding parts_of_template_arg
template_arg_is_itself r (of_template_arg.TypeArg _) = refl
template_arg_is_itself r _ = refl

pub fold_is_itself : (r : Refers) (x : FoldExpr) →
    of_part (world_of r) (Some (tree_of_fold_expr x)) ≡ Some (tree_of_fold_expr x)
unfolding parts_of_fold_expr
fold_is_itself r (of_fold_expr.UnaryLeft' _ _ _) = refl
fold_is_itself r _ = refl

pub primary_is_itself : (r : Refers) (x : ExprPrimary) →
    of_part (world_of r) (Some (tree_of_expr_primary x)) ≡ Some (tree_of_expr_primary x)
unfolding parts_of_expr_primary
primary_is_itself r (of_expr_primary.Literal _ _ _) = refl
primary_is_itself r (of_expr_primary.External' _ _) = refl

pub unresolved_name_is_itself : (r : Refers) (x : UnresolvedName) →
    of_part (world_of r) (Some (tree_of_unresolved_name x)) ≡ Some (tree_of_unresolved_name x)
unfolding parts_of_unresolved_name
unresolved_name_is_itself r (of_unresolved_name.Name _) = refl
unresolved_name_is_itself r _ = refl

pub base_name_is_itself : (r : Refers) (x : BaseUnresolvedName) →
    of_part (world_of r) (Some (tree_of_base_unresolved_name x)) ≡ Some (tree_of_base_unresolved_name x)
unfolding parts_of_base_unresolved_name
base_name_is_itself r (of_base_unresolved_name.Name _) = refl
base_name_is_itself r _ = refl

pub destructor_name_is_itself : (r : Refers) (x : DestructorName) →
    of_part (world_of r) (Some (tree_of_destructor_name x)) ≡ Some (tree_of_destructor_name x)
unfolding parts_of_destructor_name
destructor_name_is_itself r (of_destructor_name.Unresolved _) = refl
destructor_name_is_itself r (of_destructor_name.Name _) = refl

pub level_is_itself : (r : Refers) (x : UnresolvedQualifierLevel) →
    of_part (world_of r) (Some (tree_of_unresolved_qualifier_level x)) ≡ Some (tree_of_unresolved_qualifier_level x)
unfolding parts_of_unresolved_qualifier_level
level_is_itself r (UnresolvedQualifierLevel' _) = refl

pub simple_id_is_itself : (r : Refers) (x : SimpleId) →
    of_part (world_of r) (Some (tree_of_simple_id x)) ≡ Some (tree_of_simple_id x)
unfolding parts_of_simple_id
simple_id_is_itself r (SimpleId' _ _) = refl

pub unresolved_is_itself : (r : Refers) (x : UnresolvedType) →
    of_part (world_of r) (Some (tree_of_unresolved_type x)) ≡ Some (tree_of_unresolved_type x)
unresolved_is_itself r (of_unresolved_type.Template a b) = refl
unresolved_is_itself r (of_unresolved_type.Decltype a) = refl

-- ---- what is seen of a node
pub seen_expression : (r : Refers) (x : Expression) → tag (world_of r) (tree_of_expression x) ≡ tag_of_expression x
unfolding parts_of_expression
seen_expression r (of_expression.Unary' _ _ _) = refl
seen_expression r _ = refl

pub seen_primary : (r : Refers) (x : ExprPrimary) → tag (world_of r) (tree_of_expr_primary x) ≡ tag_of_expr_primary x
unfolding parts_of_expr_primary
seen_primary r (of_expr_primary.Literal _ _ _) = refl
seen_primary r (of_expr_primary.External' _ _) = refl

-- ---- operands that stand without parentheses
pub bare_primary : (r : Refers) (x : Expression) (a : ExprPrimary) → x ≡ of_expression.Primary a →
    is_bare (world_of r) (Some (tree_of_expression x)) ≡ is_external (tag (world_of r) (tree_of_expr_primary a))
unfolding parts_of_expression
bare_primary r x a e = ap (λ y. is_bare (world_of r) (Some (tree_of_expression y))) e ∙ by
  where
    by : is_bare (world_of r) (Some (tree_of_expression (of_expression.Primary a)))
        ≡ is_external (tag (world_of r) (tree_of_expr_primary a))
    by = refl

pub not_bare : (r : Refers) (x : Expression) → ((a : FunctionParam) → x ≡ of_expression.FunctionParam a → ⊥) →
    ((a : ExprPrimary) → x ≡ of_expression.Primary a → ⊥) →
    false ≡ is_bare (world_of r) (Some (tree_of_expression x))
unfolding parts_of_expression
not_bare r (of_expression.FunctionParam a) n m = absurd (n a refl)
not_bare r (of_expression.Primary a) n m = absurd (m a refl)
not_bare r _ n m = refl
