use Rattle.std.proofs.Common.{None, Some}
use Rattle.demangle_leaf_nodes.specs.TreeLeaves.{tree_of_leaf_name}
use Rattle.demangle_nodes.specs.TreeNodes.{tree_of_encoding, tree_of_name}
use Rattle.demangle_scope.specs.ScopeOf.{scope_of}
use Rattle.demangle_print_unqualified.proofs.Scopes.{with_leaf_found}
use Rattle.demangle_print_names.proofs.encodings.with_its_leaf.Goals as goal

pub returns-in-None : goal.returns-in-None
returns-in-None g c =
    with_leaf_found (scope_of c.args.scope) (tree_of_encoding c.args.node.now) (tree_of_name c.args.name.now) None
    (rw c.subs.ensures at c.in-None.ensures) c.in_leaf_scope.ensures

pub returns-in-Some : goal.returns-in-Some
returns-in-Some g c =
    with_leaf_found (scope_of c.args.scope) (tree_of_encoding c.args.node.now) (tree_of_name c.args.name.now)
    (Some (tree_of_leaf_name c.in-Some.leaf)) (rw c.subs.ensures at c.in-Some.ensures)
    (rw (c.scope_push-inner.ensures.pushed, c.leaf_item.ensures) at c.in_leaf_scope-in-Some.ensures)
