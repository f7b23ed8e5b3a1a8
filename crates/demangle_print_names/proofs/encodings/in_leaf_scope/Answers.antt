use Rattle.std.proofs.Common.{None, Some}
use Rattle.demangle_nodes.specs.TreeNodes.{tree_of_encoding, tree_of_name, tree_of_template_args}
use Rattle.demangle_scope.specs.ScopeOf.{scope_of}
use Rattle.demangle_print_names.proofs.Functions.{function_name}
use Rattle.demangle_print_unqualified.proofs.Scopes.{with_its_args}
use Rattle.demangle_print_names.proofs.encodings.in_leaf_scope.Goals as goal

pub returns-in-None : goal.returns-in-None
returns-in-None g c =
    with_its_args (scope_of c.args.scope) (tree_of_encoding c.args.node.now) (tree_of_name c.args.name.now) None
    (rw c.subs.ensures at c.in-None.ensures)
    (function_name (g.B.Below.at c.args.below).refers c.args.node.now c.args.name.now c.args.types.now c.requires.is)
    c.in_function.ensures

pub returns-in-Some : goal.returns-in-Some
returns-in-Some g c =
    with_its_args (scope_of c.args.scope) (tree_of_encoding c.args.node.now) (tree_of_name c.args.name.now)
    (Some (tree_of_template_args c.in-Some.args.now))
    (rw c.subs.ensures at c.in-Some.ensures)
    (function_name (g.B.Below.at c.args.below).refers c.args.node.now c.args.name.now c.args.types.now c.requires.is)
    (rw c.scope_push-inner.ensures.pushed at c.in_function-in-Some.ensures)
