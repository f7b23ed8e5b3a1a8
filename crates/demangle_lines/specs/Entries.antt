-- What one entry of a scope says of a template argument, whatever entries stand behind it.
use Rattle.std.specs.Prelude.{◌≡◌, ℕ, Bool, true, false, List, Option, Some, None, Result, Ok, Err}
use Rattle.demangle_core.specs.Core.{Core}
use Rattle.demangle_core.specs.Table.{Table}
use Rattle.demangle_printing.specs.Scope as spec
use Rattle.demangle_printing.specs.Scope.{Mark, in_member, scope_argument}
use Rattle.demangle_printing.specs.State.{Fault}
use Rattle.demangle_printing.specs.Trees.{began_at, with_table}
use Rattle.demangle_context.specs.TroubleOf.{fault_of}
use Rattle.demangle_context.specs.declared.trouble.PrintFault.{PrintFault}
use Rattle.demangle_lines.specs.declared.scope.Kind.{Kind}
use Rattle.demangle_lines.specs.declared.scope.Kind.TheVariants as of_kind
use Rattle.demangle_lines.specs.ScopeOf.{entry_in}

abbrev pub is_leaf : Kind → Bool
is_leaf of_kind.Leaf = true
is_leaf _ = false

abbrev pub is_arguments : Kind → Bool
is_arguments of_kind.Arguments = true
is_arguments _ = false

abbrev pub is_end : Kind → Bool
is_end of_kind.End = true
is_end _ = false

-- ---- marks: the number of the member that is being printed, and where its list began
abbrev pub mark_of : ℕ × ℕ → Mark
mark_of m = record { index = m.0; list = m.1 }

-- a scope whose newest entry has this mark
abbrev pub marked : Option (ℕ × ℕ) → spec.Scope Core → spec.Scope Core
marked None sc = sc
marked (Some m) sc = in_member m.0 m.1 sc

abbrev pub or_mark : Option (ℕ × ℕ) → ℕ × ℕ → Option (ℕ × ℕ)
or_mark None m = Some m
or_mark (Some n) m = Some n

-- the mark of the entry behind one, where this is the mark of the one
abbrev pub mark_behind : Kind → ℕ → ℕ → Option (ℕ × ℕ) → Option (ℕ × ℕ)
mark_behind of_kind.End k place m = m
mark_behind of_kind.Nothing k place m = m
mark_behind of_kind.Leaf k place m = None
mark_behind of_kind.Arguments k place m = None
mark_behind of_kind.Member k place m = or_mark m (k, place)

-- ---- answers
abbrev pub answered : {T : Type 0} → (T → Core) → Result T PrintFault → Result Core Fault
answered tree (Ok x) = Ok (tree x)
answered tree (Err f) = Err (fault_of f)

-- It has no such member: what is asked of it is asked of those behind it.
pub record PassesOn (table : Table) (kind : Kind) (x : Core) (k : ℕ) (m : Option (ℕ × ℕ)) (n : ℕ) : Type 0 where
  pub is : (input : List ℕ) (sc : spec.Scope Core) →
      scope_argument (with_table table input) (marked m (entry_in kind x k sc)) n
      ≡ scope_argument (with_table table input) (marked (mark_behind kind k (began_at x) m) sc) n

-- It has the member: the answer is its own.
pub record Decides (table : Table) (kind : Kind) (x : Core) (k : ℕ) (m : Option (ℕ × ℕ)) (n : ℕ)
    (answer : Result Core Fault) : Type 0 where
  pub is : (input : List ℕ) (sc : spec.Scope Core) →
      answer ≡ scope_argument (with_table table input) (marked m (entry_in kind x k sc)) n
