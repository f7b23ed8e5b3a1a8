-- Following references.
use Rattle.std.proofs.Common.{◌≡◌, refl, ap, ℕ, zero, suc, false, ◌-◌, ◌<◌, arith}
use Rattle.demangle_core.specs.Core.{Core}
use Rattle.demangle_core.specs.Table.{Table}
use Rattle.demangle_core.specs.Lookups.{Next, answer, nothing, at, through, after, answer_of, refers, resolve}

module _ (step : Core → Next Core) (t : Table) where
  -- what refers to nothing is answered
  pub resolved : (more : ℕ) (s : Next Core) → refers s ≡ false → resolve step more t s ≡ answer_of s
  resolved zero s h = refl
  resolved (suc more) (answer c) h = resolved more (answer c) h
  resolved (suc more) nothing h = resolved more nothing h
  resolved (suc more) (through o) h = resolved more (through o) h
  resolved (suc more) (at w k) h = cc

  pub resolve_next : (more : ℕ) (s : Next Core) → 0 < more → resolve step (more - 1) t (after step t s) ≡ resolve step more t s
  resolve_next zero s h = absurd (omega arith)
  resolve_next (suc more) s h = let e : suc more - 1 ≡ more = omega arith in ap (λ n. resolve step n t (after step t s)) e

pub ruleset following = (resolved, resolve_next)
