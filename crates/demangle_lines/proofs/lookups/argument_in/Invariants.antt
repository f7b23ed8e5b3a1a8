use Rattle.std.proofs.Common.{◌≡◌, ℕ, List}
use Rattle.demangle_printing.specs.Scope.{scope_argument}
use Rattle.demangle_printing.specs.Trees.{with_table}
use Rattle.demangle_lines.specs.Entries.{marked}
use Rattle.demangle_lines.specs.ScopeOf.{lent_scope}
use Rattle.demangle_lines.proofs.lookups.argument_in.Given as goal

abbrev pub invariant-loop-rest : goal.invariant-loop-rest
invariant-loop-rest g l =
    (input : List ℕ) →
    scope_argument (with_table (g.T.RefersTo.table l.subs) input) (lent_scope g.T.InnerNode.tree l.fn.scope) l.number
    ≡ scope_argument (with_table (g.T.RefersTo.table l.subs) input)
    (marked l.mark (lent_scope g.T.InnerNode.tree l.rest)) l.number
