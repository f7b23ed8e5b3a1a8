use Rattle.std.proofs.Common.{Some, sym, ◌∙◌, ap}
use Rattle.demangle_leaf_nodes.specs.TreeLeaves.{tree_of_leaf_name}
use Rattle.demangle_printing.specs.Scope.{scope_leaf}
use Rattle.demangle_scope.specs.ScopeOf.{lent_scope}
use Rattle.demangle_scope.proofs.Entries.{lent_is, leaf_here, leaf_behind, no_leaves}
use Rattle.demangle_scope.proofs.scope.scope_leaf_name.Goals as goal

pub loop-rest-init : goal.loop-rest-init
loop-rest-init c =
    ap scope_leaf (sym (lent_is c.as_ref-rest.result c.args.scope.now c.as_ref-rest.ensures.value))

pub loop-rest-preserved : goal.loop-rest-preserved
loop-rest-preserved c =
    c.loop-rest.invariant
    ∙ (ap (λ z. scope_leaf (lent_scope z)) c.in-Some.is
    ∙ leaf_behind c.in-Some.entry.now c.in_default-leaf_name.ensures)

pub returns-in-Some-leaf_name : goal.returns-in-Some-leaf_name
returns-in-Some-leaf_name c =
    ap Some (sym (c.loop-rest.invariant
    ∙ (ap (λ z. scope_leaf (lent_scope z)) c.in-Some.is
    ∙ leaf_here c.in-Some.entry.now (tree_of_leaf_name c.in-Some-leaf_name.leaf) c.in-Some-leaf_name.ensures)))

pub returns : goal.returns
returns c = ap Some (sym (c.loop-rest.invariant ∙ no_leaves c.loop-rest.rest c.in_default.is))
