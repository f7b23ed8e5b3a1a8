-- An entry of a table whose entries refer back refers to those before it alone.
use Rattle.std.proofs.Common.{◌≡◌, refl, ap, ◌∙◌, sym, subst, ℕ, zero, suc, Bool, true, false, ◌+◌, ◌<◌, List, [], ◌∷◌, ◌++◌, length, append_assoc, append-nil, arith}
use Rattle.std.specs.Prelude.{Some, slice_get}
use Rattle.demangle_core.specs.Core.{Core, Which, N, U, same_which}
use Rattle.demangle_core.specs.Table.{Entry, count, count_if, listed, more_if}
use Rattle.demangle_core.specs.Sound.{RefersTo, ReferBack}

-- The entry at a position among those of a front, with what stands before it.
pub record Earlier (b : List Entry) (w : Which) (k : ℕ) (e r : List Entry) : Type 0 where
  pub tree : Core
  pub before : List Entry
  pub rest : List Entry
  pub parts : e ++ r ≡ before ++ rest
  pub shorter : length before < length e
  pub there : slice_get (listed w (e ++ r)) k ≡ Some tree
  pub back : RefersTo (b ++ before) tree

module _ (b : List Entry) (w : Which) (x : Entry) (e r : List Entry) where
  -- the entry is the first one
  earlier_here : RefersTo b x.tree → same_which w x.which ≡ true → Earlier b w zero (x ∷ e) r
  earlier_here h same = record {
    tree = x.tree;
    before = [];
    rest = (x ∷ e) ++ r;
    parts = refl;
    shorter = omega arith;
    there = ap (λ s. slice_get (more_if s x.tree (listed w (e ++ r))) zero) same;
    back = subst (λ l. RefersTo l x.tree) (sym (append-nil b)) h;
  }

  -- the entry is behind the first one
  earlier_behind : (j k : ℕ) → Earlier (b ++ x ∷ []) w j e r
      → slice_get (listed w ((x ∷ e) ++ r)) k ≡ slice_get (listed w (e ++ r)) j → Earlier b w k (x ∷ e) r
  earlier_behind j k f behind = record {
    tree = f.tree;
    before = x ∷ f.before;
    rest = f.rest;
    parts = ap (λ l. x ∷ l) f.parts;
    shorter = omega (arith, f.shorter);
    there = behind ∙ f.there;
    back = subst (λ l. RefersTo l f.tree) (append_assoc b (x ∷ []) f.before) f.back;
  }

  -- the entry is of the list of the first one, or it is not
  earlier_step : (s : Bool) (k : ℕ) → same_which w x.which ≡ s → RefersTo b x.tree
      → ((j : ℕ) → j < count w e → Earlier (b ++ x ∷ []) w j e r) → k < count_if s (count w e) → Earlier b w k (x ∷ e) r
  earlier_step true zero same h f l = earlier_here h same
  earlier_step true (suc k) same h f l = earlier_behind k (suc k) (f k (omega arith)) (ap (λ s. slice_get (more_if s x.tree (listed w (e ++ r))) (suc k)) same)
  earlier_step false k same h f l = earlier_behind k k (f k l) (ap (λ s. slice_get (more_if s x.tree (listed w (e ++ r))) k) same)

-- a position among those of a front has its entry there
pub earlier : (b : List Entry) (w : Which) (k : ℕ) (e r : List Entry) → ReferBack b (e ++ r) → k < count w e → Earlier b w k e r
earlier b w k [] r h l = absurd (omega arith)
earlier b w k (x ∷ e) r h l = earlier_step b w x e r (same_which w x.which) k refl h.0 (λ j m. earlier (b ++ x ∷ []) w j e r h.1 m) l

-- an entry is in one of the two lists
count_step : (v : Which) (es : List Entry) → count N es + count U es ≡ length es
    → count_if (same_which N v) (count N es) + count_if (same_which U v) (count U es) ≡ suc (length es)
count_step N es h = omega arith
count_step U es h = omega arith

-- the two lists together are as long as the table
pub counted : (es : List Entry) → count N es + count U es ≡ length es
counted [] = refl
counted (x ∷ es) = count_step x.which es (counted es)
