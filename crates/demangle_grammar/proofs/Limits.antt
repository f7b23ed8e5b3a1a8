-- A reading under a limit and the one with none.
use Rattle.std.specs.Prelude.{◌≡◌, ◌≢◌, ℕ, suc, ◌-◌, ◌≤◌, ◌<◌, Bool, true, false, cond, nat_lt}
use Rattle.std.proofs.Common.{refl, sym, ap, ◌∙◌, arith, ⊎_elim}
use Rattle.std.proofs.lemmas.Bool.{ltb-false, lt-ltb, le-ltb, cases_lt}
use Rattle.demangle_grammar.specs.Rule.{Row}
use Rattle.demangle_grammar.specs.Tree.{trees, Tree, nil}
use Rattle.demangle_grammar.specs.Reading.{State, Answer, Deep, Measured, read_from, measure_from, enough, read_all, levels_of}
use Rattle.demangle_grammar.specs.Laws.{HasNoLimit, IsLimited}
use Rattle.demangle_grammar.proofs.Cut.{limited, cut}
use Rattle.demangle_grammar.proofs.NeverDeep.{all_ends}

-- what isn't cut
uncut : (l : ℕ) (m : Measured) (x : Answer Tree) → x ≡ limited l m → x ≢ Deep → (m.levels ≤ l) × (x ≡ m.answer)
uncut l m x e h = by (nat_lt l m.levels) refl
  where
    by : (b : Bool) → nat_lt l m.levels ≡ b → (m.levels ≤ l) × (x ≡ m.answer)
    by true p = absurd (h (e ∙ ap (λ b. cond b Deep m.answer) p))
    by false p = (ltb-false l m.levels p, e ∙ ap (λ b. cond b Deep m.answer) p)

within : (l : ℕ) (m : Measured) (x : Answer Tree) → x ≡ limited l m → m.levels ≤ l → x ≡ m.answer
within l m x e h = e ∙ ap (λ b. cond b Deep m.answer) (le-ltb l m.levels h)

past : (l : ℕ) (m : Measured) (x : Answer Tree) → x ≡ limited l m → l < m.levels → x ≡ Deep
past l m x e h = e ∙ ap (λ b. cond b Deep m.answer) (lt-ltb l m.levels h)

module _ (r : Row) (c : Bool) (s : State) where
  pub whole : ((measure_from (enough s.rest) r c s nil).levels ≤ enough s.rest) × (read_all r c s ≡ (measure_from (enough s.rest) r c s nil).answer)
  whole = uncut (enough s.rest) (measure_from (enough s.rest) r c s nil) (read_all r c s) (cut (enough s.rest) (enough s.rest) r c s nil (omega arith)) (all_ends r c s)

  -- with as many levels as are entered
  pub reads_all : (left : ℕ) → levels_of r c s ≤ left → read_from trees left r c s nil ≡ read_all r c s
  reads_all left h = ⊎_elim less more (cases_lt left (enough s.rest))
    where
      less : left < enough s.rest → read_from trees left r c s nil ≡ read_all r c s
      less l = within left (measure_from (enough s.rest) r c s nil) _ (cut left (enough s.rest) r c s nil (omega arith)) h ∙ sym whole.1

      more : enough s.rest ≤ left → read_from trees left r c s nil ≡ read_all r c s
      more l =
          let u = uncut (enough s.rest) (measure_from left r c s nil) (read_all r c s) (cut (enough s.rest) left r c s nil l) (all_ends r c s) in
          within left (measure_from left r c s nil) _ (cut left left r c s nil (omega arith)) (omega (arith, u.0)) ∙ sym u.1

  deep : (left : ℕ) → left < levels_of r c s → read_from trees left r c s nil ≡ Deep
  deep left h = past left (measure_from (enough s.rest) r c s nil) _ (cut left (enough s.rest) r c s nil (omega (arith, h, whole.0))) h

  deep_where : (left : ℕ) → read_from trees left r c s nil ≡ Deep → left < levels_of r c s
  deep_where left e = ⊎_elim (λ l. l) (λ l. absurd (all_ends r c s (sym (reads_all left l) ∙ e))) (cases_lt left (levels_of r c s))

pub has_no_limit : HasNoLimit
has_no_limit left r c s h = ⊎_elim (λ l. absurd (h (deep r c s left l))) (λ l. reads_all r c s left l) (cases_lt left (levels_of r c s))

pub is_limited : IsLimited
is_limited limit n r c s h =
    ((λ e. let l = deep_where r c s (limit - suc n) e in omega arith, λ l. deep r c s (limit - suc n) (omega arith)), λ l. reads_all r c s (limit - suc n) (omega arith))
