use Rattle.demangle_scope.specs.ScopeOf.{lent_scope, scope_of}
use Rattle.demangle_scope.proofs.Entries.{SameArgument}
use Rattle.demangle_scope.proofs.scope.scope_template_arg.Given as goal

abbrev pub invariant-loop-rest : goal.invariant-loop-rest
invariant-loop-rest l = SameArgument (scope_of l.fn.scope) (lent_scope l.rest) l.idx
