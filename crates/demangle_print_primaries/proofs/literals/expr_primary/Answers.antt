use Rattle.std.proofs.Common.{refl, sym}
use Rattle.demangle_core.specs.Core.{Tag}
use Rattle.demangle_nodes.specs.TreeNodes.{parts_of_expr_primary, tag_of_expr_primary, tree_of_mangled_name}
use Rattle.demangle_nodes.proofs.Parts.{expr_primary_external, expr_primary_literal}
use Rattle.demangle_meets.proofs.Parts.{line_at, prints_deep, prints_line, prints_parts}
use Rattle.demangle_print_primaries.proofs.Itself.{primary_is_itself}
use Rattle.demangle_print_primaries.specs.Made.{made}
use Rattle.demangle_print_primaries.proofs.literals.expr_primary.Goals as goal

pub returns-in_default : goal.returns-in_default
returns-in_default g c = prints_deep (primary_is_itself _ c.args.node.now) c.in_default.ensures

pub returns-in-Literal : goal.returns-in-Literal
returns-in-Literal g c =
    prints_parts tag_of_expr_primary parts_of_expr_primary c.in-Literal.is (expr_primary_literal _ _ _) (prints_line
    refl c.in-Some.ensures.0 c.literal.ensures)

pub returns-in-External : goal.returns-in-External
returns-in-External g c =
    prints_parts tag_of_expr_primary parts_of_expr_primary c.in-External.is (expr_primary_external _) (prints_line
    refl c.in-Some.ensures.0 (line_at (λ x. made Tag.ExprPrimaryExternal (tree_of_mangled_name x)) (sym
    c.deref.ensures) c.external.ensures))
