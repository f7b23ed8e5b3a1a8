-- The ends of look-ups: what is known of one, and what more turns know.
use Rattle.std.proofs.Common.{◌≡◌, refl, sym, ap, ◌∙◌, ℕ, zero, suc, ◌+◌, ◌-◌, ◌<◌, ◌≤◌, Bool, true, false, List, length}
use Rattle.std.proofs.Common.{get_or, nat_eq, nat_lt, slice_set, arith, ◌≢◌}
use Rattle.std.proofs.lemmas.List.{get_or-set_same, get_or-set_other}
use Rattle.std.specs.Prelude.{if◌then◌else◌}
use Rattle.demangle_core.specs.Core.{Core, N, U}
use Rattle.demangle_core.specs.Table.{Table, size}
use Rattle.demangle_core.specs.Lookups.{Next, answer, nothing, at, through, after, answer_of, refers, resolve, settled}
use Rattle.demangle_core.proofs.Resolved.{resolved}
use Rattle.demangle_cells.specs.declared.arena.Arena.{Arena}
use Rattle.demangle_cell_trees.specs.ArenaTrees.{first_inside, table_of}
use Rattle.demangle_cell_trees.specs.Ends.{Kept, component_at, last_of, seat}
use Rattle.demangle_cell_trees.specs.Steps.{component_in, first_numbered, first_other, step_of}
use Rattle.demangle_cell_trees.specs.declared.roles.Sought.{Sought}
use Rattle.demangle_cell_trees.proofs.Ways.{numbered_step, other_step}

if_so : {A : Type 0} {b : Bool} (x y : A) → b ≡ true → (if b then x else y) ≡ x
if_so x y h = rw h refl

if_not : {A : Type 0} {b : Bool} (x y : A) → b ≡ false → (if b then x else y) ≡ y
if_not x y h = rw h refl

module _ (step : Core → Next Core) (t : Table) where
  -- one more turn, by whether there is a component behind this one
  more_if : (more : ℕ) (s : Next Core) (b : Bool) → refers (after step t s) ≡ b
      → (0 < seat (last_of step t more (after step t s))
      → last_of step t (suc more) (after step t s) ≡ last_of step t more (after step t s))
      → 0 < seat (last_of step t (suc more) s) → last_of step t (suc (suc more)) s ≡ last_of step t (suc more) s
  more_if more s true e r h =
      let k : last_of step t (suc more) s ≡ last_of step t more (after step t s) =
      if_so (last_of step t more (after step t s)) s e in
      if_so (last_of step t (suc more) (after step t s)) s e ∙ (r (rw (sym k) h) ∙ sym k)
  more_if more s false e r h =
      if_not (last_of step t (suc more) (after step t s)) s e
      ∙ sym (if_not (last_of step t more (after step t s)) s e)

  pub last_more : (more : ℕ) (s : Next Core) → 0 < seat (last_of step t more s)
      → last_of step t (suc more) s ≡ last_of step t more s
  last_more zero s h = absurd (omega (arith, h))
  last_more (suc more) s h = more_if more s (refers (after step t s)) refl (last_more more (after step t s)) h

  -- where the last one is known, one turn behind it is the answer
  resolves_if : (more : ℕ) (s : Next Core) (b : Bool) → refers (after step t s) ≡ b
      → (0 < seat (last_of step t more (after step t s))
      → answer_of (after step t (last_of step t more (after step t s))) ≡ resolve step more t (after step t s))
      → 0 < seat (last_of step t (suc more) s)
      → answer_of (after step t (last_of step t (suc more) s)) ≡ resolve step more t (after step t s)
  resolves_if more s true e r h =
      let k : last_of step t (suc more) s ≡ last_of step t more (after step t s) =
      if_so (last_of step t more (after step t s)) s e in
      ap (λ x. answer_of (after step t x)) k ∙ r (rw (sym k) h)
  resolves_if more s false e r h =
      ap (λ x. answer_of (after step t x)) (if_not (last_of step t more (after step t s)) s e)
      ∙ sym (resolved step t more (after step t s) e)

  pub last_resolves : (more : ℕ) (s : Next Core) → 0 < seat (last_of step t more s)
      → answer_of (after step t (last_of step t more s)) ≡ resolve step more t s
  last_resolves zero s h = absurd (omega (arith, h))
  last_resolves (suc more) s h =
      resolves_if more s (refers (after step t s)) refl (last_resolves more (after step t s)) h

-- the step of a number that is known
pub seated : (a : Arena) (x : Next Core) (n : ℕ) → seat x ≡ n → 0 < n → step_of a n ≡ x
seated a (answer c) n h p = absurd (omega (arith, h, p))
seated a nothing n h p = absurd (omega (arith, h, p))
seated a (through o) n h p = absurd (omega (arith, h, p))
seated a (at N k) n h p = by (nat_lt k first_inside) refl
  where
    by : (b : Bool) → nat_lt k first_inside ≡ b → step_of a n ≡ at N k
    by true e =
        let l : k < first_inside = grind (arith, e) in
        ap (step_of a) (sym h ∙ if_so (first_numbered + k) 0 e) ∙ numbered_step a k l
    by false e = let z : 0 ≡ n = sym (if_not (first_numbered + k) 0 e) ∙ h in absurd (omega (arith, z, p))
seated a (at U k) n h p = by (nat_lt k first_inside) refl
  where
    by : (b : Bool) → nat_lt k first_inside ≡ b → step_of a n ≡ at U k
    by true e =
        let l : k < first_inside = grind (arith, e) in
        ap (step_of a) (sym h ∙ if_so (first_other + k) 0 e) ∙ other_step a k l
    by false e = let z : 0 ≡ n = sym (if_not (first_other + k) 0 e) ∙ h in absurd (omega (arith, z, p))

module _ (s : Sought) (a : Arena) (split : ℕ) (ends : List ℕ) where
  pub kept_next : (more : ℕ) → Kept s a split more ends → Kept s a split (suc more) ends
  kept_next more k i h =
      let e : seat (last_of (component_in s) (table_of a) more (component_at split i)) ≡ get_or ends i 0 = k i h in
      let p : 0 < seat (last_of (component_in s) (table_of a) more (component_at split i)) = rw e h in
      ap seat (last_more (component_in s) (table_of a) more (component_at split i) p) ∙ e

  pub kept_later : (d more : ℕ) → Kept s a split more ends → Kept s a split (d + more) ends
  kept_later zero more k = let e : 0 + more ≡ more = omega arith in rw e k
  kept_later (suc d) more k =
      let e : suc d + more ≡ suc (d + more) = omega arith in
      rw e (kept_next (d + more) (kept_later d more k))

  -- as many turns or more
  pub kept_all : (more all : ℕ) → more ≤ all → Kept s a split more ends → Kept s a split all ends
  kept_all more all h k = let e : all ≡ (all - more) + more = omega (arith, h) in rw e (kept_later (all - more) more k)

  -- one more end is kept
  pub kept_set : (more slot v : ℕ) → Kept s a split more ends → slot < length ends
      → (0 < v → seat (last_of (component_in s) (table_of a) (suc more) (component_at split slot)) ≡ v)
      → Kept s a split (suc more) (slice_set ends slot v)
  kept_set more slot v k l new i h = by (nat_eq i slot) refl
    where
      by : (b : Bool) → nat_eq i slot ≡ b
          → seat (last_of (component_in s) (table_of a) (suc more) (component_at split i))
          ≡ get_or (slice_set ends slot v) i 0
      by true e =
          let same : i ≡ slot = grind (arith, e) in
          let is : get_or (slice_set ends slot v) i 0 ≡ v =
          ap (λ j. get_or (slice_set ends slot v) j 0) same ∙ get_or-set_same ends slot v 0 l in
          ap (λ j. seat (last_of (component_in s) (table_of a) (suc more) (component_at split j))) same
          ∙ (new (rw (sym is) h) ∙ sym is)
      by false e =
          let apart : i ≢ slot = grind (arith, e) in
          let is : get_or (slice_set ends slot v) i 0 ≡ get_or ends i 0 = get_or-set_other ends slot i v 0 apart in
          kept_next more k i (rw (sym is) h) ∙ sym is

-- what one turn behind a kept end answers
pub settles : (s : Sought) (a : Arena) (x y : Next Core) (n : ℕ)
    → seat (last_of (component_in s) (table_of a) (size N (table_of a) + size U (table_of a)) x) ≡ n → 0 < n
    → y ≡ after (component_in s) (table_of a) (step_of a n)
    → answer_of y ≡ settled (component_in s) (table_of a) x
settles s a x y n e p h =
    let q : 0 < seat (last_of (component_in s) (table_of a) (size N (table_of a) + size U (table_of a)) x) = rw e p in
    ap answer_of h
    ∙ (ap (λ z. answer_of (after (component_in s) (table_of a) z))
    (seated a (last_of (component_in s) (table_of a) (size N (table_of a) + size U (table_of a)) x) n e p)
    ∙ last_resolves (component_in s) (table_of a) (size N (table_of a) + size U (table_of a)) x q)
