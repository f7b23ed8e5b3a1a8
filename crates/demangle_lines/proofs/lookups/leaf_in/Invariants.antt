use Rattle.std.proofs.Common.{◌≡◌}
use Rattle.demangle_printing.specs.Scope.{scope_leaf}
use Rattle.demangle_lines.specs.ScopeOf.{lent_scope}
use Rattle.demangle_lines.proofs.lookups.leaf_in.Given as goal

abbrev pub invariant-loop-rest : goal.invariant-loop-rest
invariant-loop-rest g l =
    scope_leaf (lent_scope g.T.InnerNode.tree l.fn.scope) ≡ scope_leaf (lent_scope g.T.InnerNode.tree l.rest)
