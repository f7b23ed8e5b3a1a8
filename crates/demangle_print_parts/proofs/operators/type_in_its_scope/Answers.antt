use Rattle.std.proofs.Common.{None, Some}
use Rattle.demangle_nodes.specs.TreeNodes.{tree_of_template_args}
use Rattle.demangle_scope.specs.ScopeOf.{scope_of}
use Rattle.demangle_print_parts.proofs.WordOperators.{prints_in_scope}
use Rattle.demangle_print_parts.proofs.operators.type_in_its_scope.Goals as goal

pub returns-in-None : goal.returns-in-None
returns-in-None g c = prints_in_scope (scope_of c.args.scope) None
    (rw c.subs.ensures at c.in-None.ensures) c.type_handle.ensures

pub returns-in-Some : goal.returns-in-Some
returns-in-Some g c =
    prints_in_scope (scope_of c.args.scope) (Some (tree_of_template_args c.in-Some.args.now))
    (rw c.subs.ensures at c.in-Some.ensures)
    (rw c.scope_push-inner.ensures.pushed at c.type_handle-in-Some.ensures)
