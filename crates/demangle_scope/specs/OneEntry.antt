-- What one entry of a scope says of a template argument, whatever entries stand behind it.
use Rattle.std.specs.Prelude.{◌≡◌, ℕ, ◌∷◌, Some, Result, IfOk}
use Rattle.std.specs.Borrow.{Bor}
use Rattle.demangle_core.specs.Core.{Core}
use Rattle.demangle_text.specs.declared.error.Error.{Error}
use Rattle.demangle_nodes.specs.declared.nodes.TemplateArg.{TemplateArg}
use Rattle.demangle_nodes.specs.declared.nodes.TemplateArgs.{TemplateArgs}
use Rattle.demangle_nodes.specs.TreeNodes.{tree_of_template_args}
use Rattle.demangle_printing.specs.Scope.{Scope, Entry, scope_argument}
use Rattle.demangle_meets.specs.Place.{Refers, world_of}
use Rattle.demangle_scope.specs.ScopeOf.{answered, argument_list, member_tree}

-- It has no such member: what is asked of it is asked of those behind it.
pub record PassesOn (e : Entry Core) (k : ℕ) : Type 0 where
  pub argument : (r : Refers) (others : Scope Core) → scope_argument (world_of r) (e ∷ others) k
      ≡ scope_argument (world_of r) others k
  pub list : (r : Refers) (others : Scope Core) → argument_list (world_of r) (e ∷ others) k
      ≡ argument_list (world_of r) others k

-- It has the member: the answer is its own.
pub record Decides (e : Entry Core) (k : ℕ) (answer : Result (Bor TemplateArg × Bor TemplateArgs) Error)
    : Type 0 where
  pub argument : (r : Refers) (others : Scope Core) → answered member_tree answer
      ≡ Some (scope_argument (world_of r) (e ∷ others) k)
  pub list : (r : Refers) (others : Scope Core) → IfOk answer (λ found. argument_list (world_of r) (e ∷ others) k
      ≡ Some (tree_of_template_args found.1.now))
