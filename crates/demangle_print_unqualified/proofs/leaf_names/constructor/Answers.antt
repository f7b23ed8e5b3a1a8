use Rattle.std.proofs.Common.{Some, refl, sym}
use Rattle.demangle_leaf_nodes.specs.TreeLeaves.{tree_of_leaf_name, tree_of_option, tree_of_type_handle}
use Rattle.demangle_printing.specs.Lines.Names.{constructor}
use Rattle.demangle_printing.specs.Reader.{run}
use Rattle.demangle_printing.specs.Step.{Step}
use Rattle.demangle_meets.specs.Place.{world_of}
use Rattle.demangle_meets.proofs.Acts.{meets_ask, meets_block, meets_done}
use Rattle.demangle_meets.proofs.Parts.{meets_at}
use Rattle.demangle_scope.specs.ScopeOf.{scope_of}
use Rattle.demangle_print_parts.specs.Pieces.{row}
use Rattle.demangle_print_unqualified.proofs.Scopes.{borne, leaf_given, needs, no_leaf}
use Rattle.demangle_print_unqualified.proofs.leaf_names.constructor.Goals as goal

pub returns-in-Err : goal.returns-in-Err
returns-in-Err g c = no_leaf (scope_of c.args.scope) c.in-Err.error c.in-Err.ensures c.fail_reference.ensures

pub returns-in-None : goal.returns-in-None
returns-in-None g c =
    let given = leaf_given (scope_of c.args.scope) (tree_of_leaf_name c.in-Ok.leaf) c.in-Ok.ensures in
    meets_at
    (λ m. run (world_of (g.B.Below.at c.args.below).refers) (Some (row (tree_of_option tree_of_type_handle m)))
    (scope_of c.args.scope) (constructor Step.done))
    (sym c.in-None.is)
    (needs (scope_of c.args.scope) given (meets_ask (λ _. refl) (meets_block (borne
    (scope_of c.args.scope) given c.leaf_name.ensures) meets_done) meets_done))

pub returns-in-Some : goal.returns-in-Some
returns-in-Some g c =
    let given = leaf_given (scope_of c.args.scope) (tree_of_leaf_name c.in-Ok.leaf) c.in-Ok.ensures in
    meets_at
    (λ m. run (world_of (g.B.Below.at c.args.below).refers) (Some (row (tree_of_option tree_of_type_handle m)))
    (scope_of c.args.scope) (constructor Step.done))
    (sym c.in-Some.is)
    (needs (scope_of c.args.scope) given (meets_ask (λ _. refl)
    (meets_block c.inherited_leaf.ensures meets_done) meets_done))
