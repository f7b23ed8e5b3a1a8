-- Nodes and lists of parts that were put into an arena before.
use Rattle.std.proofs.Common.{◌≡◌, refl, ap, ◌∙◌, sym, subst, ℕ, ℤ, ◌+◌, List, [], ◌∷◌, ◌++◌, length, take}
use Rattle.std.proofs.Common.{drop, Result, Ok, Err}
use Rattle.std.specs.Prelude.{IfOk, IfErr, OnOk, OnErr}
use Rattle.demangle_core.specs.Core.{Core, Tag, node, number, end, ◌⊕◌, trees, numbers}
use Rattle.demangle_text.specs.declared.error.Error.{Error}
use Rattle.demangle_text.specs.declared.error.Error.TheVariants.{OutOfMemory}
use Rattle.demangle_cells.specs.Cells.{row, list_tree}
use Rattle.demangle_cells.specs.View.{View, Holds, KeepsTrees, since}
use Rattle.demangle_cells.specs.declared.cell.ListOf.{ListOf}
use Rattle.demangle_cells.proofs.Waits.{waited_self, waited_on, waited_grown}
use Rattle.demangle_cells.proofs.Waits.{waited_kept, gathered_grown, gathered_table}
use Rattle.demangle_cells.proofs.Waits.{since_self, since_more}
use Rattle.demangle_leaves_to_cells.specs.Put.{Put, Waits}
use Rattle.demangle_leaves_to_cells.proofs.Rows.{row_more}

-- the same tree
pub told : (a b : View) (r : Result ℕ Error) (x y : Core) → x ≡ y → Put a b r x → Put a b r y
told a b r x y e p = subst (Put a b r) e p

-- ---- lists
pub none_waits : (v : View) → Waits v v (Ok tt) end
none_waits v = record {
  waited = waited_self v;
  table = λ F. refl;
  made = λ F h. ap (row F) (since_self v);
  refused = tt;
}

of_ok : (b : View) (r : Result ℕ Error) (k : ℕ) (x : Core) → r ≡ Ok k
    → IfOk r (λ i. (F : ℕ → Core) → Holds F b → F i ≡ x) → (F : ℕ → Core) → Holds F b → F k ≡ x
of_ok b r k x e m = subst (λ r. IfOk r (λ i. (F : ℕ → Core) → Holds F b → F i ≡ x)) e m

-- one index more, behind those that wait
pub one_more_waits : (a b d e : View) (x y : Core) (part : Result ℕ Error) (k : ℕ) → part ≡ Ok k → KeepsTrees d e
    → e.waiting ≡ d.waiting ++ k ∷ [] → Waits a b (Ok tt) x → Put b d part y → Waits a e (Ok tt) (x ⊕ y)
one_more_waits a b d e x y part k o t m w p = record {
  waited = waited_on a b d e k w.waited p.grown t m;
  table = λ F. gathered_table F d e t ∙ (p.table F ∙ w.table F);
  made = λ F h.
      let before = t.holds F h in
      ap (row F) (since_more a b d e k w.waited p.grown m)
      ∙ (row_more F (since a b) k
      ∙ (ap (λ z. z ⊕ F k) (w.made F (p.grown.holds F before))
      ∙ ap (λ z. x ⊕ z) (of_ok d part k y o p.made F before)));
  refused = tt;
}

pub wait_waits : (a b d e : View) (x y : Core) (part : Result ℕ Error) (k : ℕ) (r : Result (Unit {0}) Error)
    → part ≡ Ok k → KeepsTrees d e → OnOk r (e.waiting ≡ d.waiting ++ k ∷ []) → OnErr r (e.waiting ≡ d.waiting)
    → IfErr r (λ e. e ≡ OutOfMemory) → Waits a b (Ok tt) x → Put b d part y → Waits a e r (x ⊕ y)
wait_waits a b d e x y part k (Ok u) o t m n f w p =
    let q = one_more_waits a b d e x y part k o t m w p in
    record { waited = q.waited; table = q.table; made = q.made; refused = tt }
wait_waits a b d e x y part k (Err u) o t m n f w p = record {
  waited = waited_kept a d e (waited_grown a b d w.waited p.grown) t n;
  table = λ F. gathered_table F d e t ∙ (p.table F ∙ w.table F);
  made = tt;
  refused = f;
}

-- those so far were refused, or the next one is
pub wait_failed : (a b d : View) (x y z : Core) (r : Result (Unit {0}) Error) (part : Result ℕ Error)
    → Waits a b r x → Put b d part y → Waits a d (Err OutOfMemory) z
wait_failed a b d x y z r part w p = record {
  waited = waited_grown a b d w.waited p.grown;
  table = λ F. p.table F ∙ w.table F;
  made = tt;
  refused = refl;
}

pub waits_failed : (a b : View) (r s : Result (Unit {0}) Error) (x y : Core) (e : Error) → r ≡ Err e → s ≡ Err e
    → Waits a b r x → Waits a b s y
waits_failed a b r s x y e h k w = subst (λ r. Waits a b r y) (sym k) (record {
  waited = w.waited;
  table = w.table;
  made = tt;
  refused = subst (λ r. IfErr r (λ e. e ≡ OutOfMemory)) h w.refused;
})

module _ {A : Type 0} (t : A → Tag) (p : A → Core) where
  trees_append : (xs ys : List A) → trees t p (xs ++ ys) ≡ trees t p xs ⊕ trees t p ys
  trees_append [] ys = refl
  trees_append (x ∷ xs) ys = ap (node (t x) (p x)) (trees_append xs ys)

  -- one item more of the list waits
  pub trees_more : (a b : View) (r : Result (Unit {0}) Error) (u : Unit {0}) (xs : List A) (k : ℕ) (x : A) → r ≡ Ok u
      → take (k + 1) xs ≡ take k xs ++ x ∷ [] → Waits a b r (trees t p (take k xs) ⊕ node (t x) (p x) end)
      → Waits a b (Ok tt) (trees t p (take (k + 1) xs))
  trees_more a b r u xs k x e n w =
      subst (Waits a b (Ok tt)) (sym (ap (trees t p) n ∙ trees_append (take k xs) (x ∷ [])))
      (subst (λ r. Waits a b r (trees t p (take k xs) ⊕ node (t x) (p x) end)) e w)

numbers_append : (ms ns : List ℤ) → numbers (ms ++ ns) ≡ numbers ms ⊕ numbers ns
numbers_append [] ns = refl
numbers_append (m ∷ ms) ns = ap (number m) (numbers_append ms ns)

pub numbers_more : (a b : View) (r : Result (Unit {0}) Error) (u : Unit {0}) (ns : List ℤ) (k : ℕ) (n : ℤ) → r ≡ Ok u
    → take (k + 1) ns ≡ take k ns ++ n ∷ [] → Waits a b r (numbers (take k ns) ⊕ number n end)
    → Waits a b (Ok tt) (numbers (take (k + 1) ns))
numbers_more a b r u ns k n e h w =
    subst (Waits a b (Ok tt)) (sym (ap numbers h ∙ numbers_append (take k ns) (n ∷ [])))
    (subst (λ r. Waits a b r (numbers (take k ns) ⊕ number n end)) e w)

-- ---- the list of what waits
pub gather_put : (a b d : View) (from id : ℕ) (list : ListOf) (x : Core) (r : Result (Unit {0}) Error) (u : Unit {0})
    → r ≡ Ok u → from ≡ length a.waiting → KeepsTrees b d → d.waiting ≡ take from b.waiting
    → ((F : ℕ → Core) → Holds F d → F id ≡ list_tree list (row F (drop from b.waiting)))
    → Waits a b r x → Put a d (Ok id) (list_tree list x)
gather_put a b d from id list x r u o f k w m q = record {
  grown = gathered_grown a b d from f q.waited k w;
  table = λ F. gathered_table F b d k ∙ q.table F;
  made = λ F h.
      m F h ∙ ap (list_tree list) (ap (λ n. row F (drop n b.waiting)) f
      ∙ subst (λ r. OnOk r ((F : ℕ → Core) → Holds F b → row F (since a b) ≡ x)) o q.made F (k.holds F h));
  refused = tt;
}

pub gather_failed : (a b d : View) (from : ℕ) (x y : Core) (r : Result (Unit {0}) Error) → from ≡ length a.waiting
    → KeepsTrees b d → d.waiting ≡ take from b.waiting → Waits a b r x → Put a d (Err OutOfMemory) y
gather_failed a b d from x y r f k w q = record {
  grown = gathered_grown a b d from f q.waited k w;
  table = λ F. gathered_table F b d k ∙ q.table F;
  made = tt;
  refused = refl;
}
