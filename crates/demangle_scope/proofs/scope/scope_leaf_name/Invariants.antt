use Rattle.std.proofs.Common.{◌≡◌}
use Rattle.demangle_printing.specs.Scope.{scope_leaf}
use Rattle.demangle_scope.specs.ScopeOf.{lent_scope, scope_of}
use Rattle.demangle_scope.proofs.scope.scope_leaf_name.Given as goal

abbrev pub invariant-loop-rest : goal.invariant-loop-rest
invariant-loop-rest l = scope_leaf (scope_of l.fn.scope) ≡ scope_leaf (lent_scope l.rest)
