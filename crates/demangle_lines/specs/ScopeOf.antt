-- What contracts see of a scope.
use Rattle.std.specs.Prelude.{ℕ, [], ◌∷◌, Option, Some, None}
use Rattle.std.specs.Borrow.{Bor}
use Rattle.demangle_core.specs.Core.{Core}
use Rattle.demangle_printing.specs.Scope as spec
use Rattle.demangle_printing.specs.Scope.{with_leaf, with_args, in_member}
use Rattle.demangle_printing.specs.Trees.{began_at}
use Rattle.demangle_lines.specs.declared.scope.Kind.{Kind}
use Rattle.demangle_lines.specs.declared.scope.Kind.TheVariants as of_kind
use Rattle.demangle_lines.specs.declared.scope.Scope.{Scope, Scope'}
use Rattle.demangle_lines.specs.declared.scope.Scope.{Held-Scope-previous, None', Some'}

-- an entry, by what it is
abbrev pub entry_in : Kind → Core → ℕ → spec.Scope Core → spec.Scope Core
entry_in of_kind.End x k sc = []
entry_in of_kind.Nothing x k sc = sc
entry_in of_kind.Leaf x k sc = with_leaf (Some x) sc
entry_in of_kind.Arguments x k sc = with_args (Some x) sc
entry_in of_kind.Member x k sc = in_member k (began_at x) sc

module _ {T : Type 0} (tree : T → Core) where
  abbrev mutual
    pub stack_scope : Scope T → spec.Scope Core
    stack_scope (Scope' kind x k previous) = entry_in kind (tree x) k (scope_behind previous)

    pub scope_behind : Held-Scope-previous T → spec.Scope Core
    scope_behind None' = []
    scope_behind (Some' p s) = stack_scope s

  abbrev pub lent_scope : Option (Bor (Scope T)) → spec.Scope Core
  lent_scope None = []
  lent_scope (Some s) = stack_scope s.now
