-- What holds of all trees and tables.
use Rattle.std.specs.Prelude.{◌≡◌, ℕ, zero, suc, ◌+◌, false, is_some}
use Rattle.std.specs.Cmp.{IsEquivalence}
use Rattle.demangle_core.specs.Core.{Core, Which, N, U, same}
use Rattle.demangle_core.specs.Table.{Table, added, cut, same_tables, size, sizes}
use Rattle.demangle_core.specs.Sound.{RefsSound}
use Rattle.demangle_core.specs.Lookups.{Next, Sort, after, refers, resolve}
use Rattle.demangle_core.specs.Lookups.{leaf_step, leaf_name, args_step, component_args, template_args, special_step}
use Rattle.demangle_core.specs.Lookups.{is_special}

abbrev pub EqualityIsAnEquivalence : Type 0
EqualityIsAnEquivalence = IsEquivalence same

abbrev pub EqualityOfTablesIsAnEquivalence : Type 0
EqualityOfTablesIsAnEquivalence = IsEquivalence same_tables

abbrev pub CutTakesBack : Type 0
CutTakesBack = (which : Which) (tree : Core) (t : Table) → cut (sizes t) (added which tree t) ≡ t

-- ---- look-ups end by themselves
-- How many entries a table has.
abbrev pub entries : Table → ℕ
entries t = size N t + size U t

-- Where a look-up stands after so many turns.
abbrev pub turned : (Core → Next Core) → ℕ → Table → Next Core → Next Core
turned step zero t s = s
turned step (suc more) t s = turned step more t (after step t s)

-- After as many turns as the table has entries no look-up stands at a reference.
pub record AtAnEnd (t : Table) (c : Core) : Type 0 where
  pub leaf : refers (turned leaf_step (entries t) t (leaf_step c)) ≡ false
  pub args : (s : Sort) → refers (turned (component_args s) (entries t) t (args_step c)) ≡ false
  pub special : refers (turned special_step (entries t) t (special_step c)) ≡ false

-- More turns give the same answers.
pub record SameWithMore (t : Table) (c : Core) (more : ℕ) : Type 0 where
  pub leaf : resolve leaf_step (entries t + more) t (leaf_step c) ≡ leaf_name t c
  pub args : (s : Sort) → resolve (component_args s) (entries t + more) t (args_step c) ≡ template_args s t c
  pub special : is_some (resolve special_step (entries t + more) t (special_step c)) ≡ is_special t c

-- Where the references of a node and of its table are sound, the bound on the turns ends no look-up.
abbrev pub LookupsEnd : Type 0
LookupsEnd = (t : Table) (c : Core) → RefsSound t c → AtAnEnd t c × ((more : ℕ) → SameWithMore t c more)
