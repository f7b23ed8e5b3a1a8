-- Where the look-ups of components end: at the last component of a chain.
use Rattle.std.specs.Prelude.{◌≡◌, ℕ, zero, suc, ◌+◌, ◌-◌, ◌<◌, List, get_or, nat_lt, if◌then◌else◌}
use Rattle.demangle_core.specs.Core.{Core, N, U}
use Rattle.demangle_core.specs.Table.{Table, size}
use Rattle.demangle_core.specs.Lookups.{Next, nothing, at, after, refers}
use Rattle.demangle_cells.specs.declared.arena.Arena.{Arena}
use Rattle.demangle_cell_trees.specs.ArenaTrees.{first_inside, table_of}
use Rattle.demangle_cell_trees.specs.Steps.{component_in, first_numbered, first_other}
use Rattle.demangle_cell_trees.specs.declared.roles.Sought.{Sought}

-- the last component that is come to in less than so many turns, if it is the last one
abbrev pub last_of : (Core → Next Core) → Table → ℕ → Next Core → Next Core
last_of step t zero s = nothing
last_of step t (suc more) s = if refers (after step t s) then last_of step t more (after step t s) else s

-- the number of the step to a component
abbrev pub seat : Next Core → ℕ
seat (at N k) = if nat_lt k first_inside then first_numbered + k else 0
seat (at U k) = if nat_lt k first_inside then first_other + k else 0
seat _ = 0

-- the numbered ones, so many, and then the others
abbrev pub component_at : ℕ → ℕ → Next Core
component_at split i = if nat_lt i split then at N i else at U (i - split)

-- what is kept of a component is the last one of its chain, or nothing
abbrev pub Kept : Sought → Arena → (split more : ℕ) → List ℕ → Type 0
Kept s a split more ends =
    (i : ℕ) → 0 < get_or ends i 0
    → seat (last_of (component_in s) (table_of a) more (component_at split i)) ≡ get_or ends i 0

-- by as many turns as a look-up takes
abbrev pub KeptAll : Sought → Arena → (split : ℕ) → List ℕ → Type 0
KeptAll s a split ends = Kept s a split (size N (table_of a) + size U (table_of a)) ends
