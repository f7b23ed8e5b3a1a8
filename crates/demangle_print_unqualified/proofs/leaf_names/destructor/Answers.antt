use Rattle.demangle_leaf_nodes.specs.TreeLeaves.{tree_of_leaf_name}
use Rattle.demangle_meets.proofs.Acts.{meets_block, meets_done, meets_text}
use Rattle.demangle_scope.specs.ScopeOf.{scope_of}
use Rattle.demangle_print_unqualified.proofs.Scopes.{borne, leaf_given, needs, no_leaf}
use Rattle.demangle_print_unqualified.proofs.leaf_names.destructor.Goals as goal

pub returns-in-Err : goal.returns-in-Err
returns-in-Err g c = λ x. no_leaf (scope_of c.args.scope) c.in-Err.error c.in-Err.ensures c.fail_reference.ensures

pub returns-in-Ok : goal.returns-in-Ok
returns-in-Ok g c =
    let given = leaf_given (scope_of c.args.scope) (tree_of_leaf_name c.in-Ok.leaf) c.in-Ok.ensures in
    λ x. needs (scope_of c.args.scope) given
    (meets_text c.text.ensures (meets_block (borne (scope_of c.args.scope) given c.leaf_name.ensures) meets_done))
