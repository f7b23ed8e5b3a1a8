-- Cells whose parts stand before them have a model.
use Rattle.std.proofs.Common.{◌≡◌, refl, ap, ◌∙◌, sym, ℕ, suc, zero, ◌≤◌, ◌<◌, ◌+◌, ◌-◌, Bool, true, false, List, []}
use Rattle.std.proofs.Common.{◌∷◌}
use Rattle.std.proofs.Common.{◌++◌, length, get_or, nat_lt, arith}
use Rattle.demangle_core.specs.Core as core
use Rattle.demangle_core.specs.Core.{Core, end, node, mark, ◌⊕◌}
use Rattle.demangle_cells.specs.Tags.{tag_of}
use Rattle.demangle_cells.specs.Fixed.{fixed, first_cell, first_reference}
use Rattle.demangle_cells.specs.Cells.{plain_tree, row, span, holds_from}
use Rattle.demangle_cells.specs.Behind.{is_known, all_known, is_behind, all_behind}
use Rattle.demangle_cells.specs.Model.{valued, values, model}
use Rattle.demangle_cells.specs.Stored.{View, Holds}
use Rattle.demangle_cells.specs.declared.plain.Plain.{Plain}
use Rattle.demangle_cells.specs.declared.plain.Plain.TheVariants as of_plain

get_front : (vs ws : List Core) (i : ℕ) → i < length vs → get_or (vs ++ ws) i end ≡ get_or vs i end
get_front [] ws i h = absurd (omega arith)
get_front (v ∷ vs) ws zero h = refl
get_front (v ∷ vs) ws (suc i) h = get_front vs ws i (omega arith)

get_last : (vs : List Core) (x : Core) → get_or (vs ++ x ∷ []) (length vs) end ≡ x
get_last [] x = refl
get_last (v ∷ vs) x = get_last vs x

longer : (vs : List Core) (x : Core) → length (vs ++ x ∷ []) ≡ length vs + 1
longer [] x = omega arith
longer (v ∷ vs) x = let h = longer vs x in omega arith

kept : (vs : List Core) (l : List ℕ) (cs : List Plain) (i : ℕ) → i < length vs
    → get_or (values vs l cs) i end ≡ get_or vs i end
kept vs l [] i h = refl
kept vs l (c ∷ cs) i h =
    let x : Core = plain_tree (valued vs) l c in
    let n : length (vs ++ x ∷ []) ≡ length vs + 1 = longer vs x in
    kept (vs ++ x ∷ []) l cs i (omega arith) ∙ get_front vs (x ∷ []) i h

-- ---- the tree of a cell is told by its parts
same_row : (F G : ℕ → Core) (n : ℕ) → ((i : ℕ) → is_known n i ≡ true → F i ≡ G i) → (ks : List ℕ)
    → all_known n ks ≡ true
    → row F ks ≡ row G ks
same_row F G n e [] h = refl
same_row F G n e (k ∷ ks) h = from k ks h
  where
    from : (k : ℕ) (ks : List ℕ) → all_known n (k ∷ ks) ≡ true → row F (k ∷ ks) ≡ row G (k ∷ ks)
    from k [] h = e k (grind (arith, h))
    from k (j ∷ js) h =
        let a : is_known n k ≡ true = grind (arith, h) in
        let b : all_known n (j ∷ js) ≡ true = grind (arith, h) in
        let r : row F (j ∷ js) ≡ row G (j ∷ js) = from j js b in
        ap (λ x. x ⊕ row F (j ∷ js)) (e k a) ∙ ap (λ x. G k ⊕ x) r

same_tree : (F G : ℕ → Core) (n : ℕ) (l : List ℕ) → ((i : ℕ) → is_known n i ≡ true → F i ≡ G i) → (c : Plain)
    → is_behind n l c ≡ true → plain_tree F l c ≡ plain_tree G l c
same_tree F G n l e (of_plain.One t a) h = ap (λ x. node (tag_of t) x end) (e a h)
same_tree F G n l e (of_plain.Two t a b) h =
    let k : all_known n (a ∷ b ∷ []) ≡ true = grind (arith, h) in
    ap (λ x. node (tag_of t) x end) (same_row F G n e (a ∷ b ∷ []) k)
same_tree F G n l e (of_plain.Three t a b c) h =
    let k : all_known n (a ∷ b ∷ c ∷ []) ≡ true = grind (arith, h) in
    ap (λ x. node (tag_of t) x end) (same_row F G n e (a ∷ b ∷ c ∷ []) k)
same_tree F G n l e (of_plain.Many t start count) h =
    let k : all_known n (span l start count) ≡ true = grind (arith, h) in
    ap (λ x. node (tag_of t) x end) (same_row F G n e (span l start count) k)
same_tree F G n l e (of_plain.Arguments at a) h = ap (λ x. node core.Tag.TemplateArgs (mark at x) end) (e a h)
same_tree F G n l e _ h = refl

-- ---- the model
module _ (l : List ℕ) where
  -- known indexes have the same tree once more cells are there
  same_known : (vs : List Core) (cs : List Plain) (n i : ℕ) → n ≡ first_cell + length vs → n ≤ first_reference
      → is_known n i ≡ true
      → valued vs i ≡ valued (values vs l cs) i
  same_known vs cs n i e b h = by (nat_lt i first_cell) (nat_lt i first_reference) refl refl
    where
      by : (x y : Bool) → nat_lt i first_cell ≡ x → nat_lt i first_reference ≡ y
          → valued vs i ≡ valued (values vs l cs) i
      by true y p q = rw p refl
      by false false p q = rw (p, q) refl
      by false true p q =
          let k : i - first_cell < length vs = grind (arith, e, h, p, q) in
          rw (p, q) (sym (kept vs l cs (i - first_cell) k))

  here : (vs : List Core) (x : Core) (cs : List Plain) (n : ℕ) → n ≡ first_cell + length vs → n < first_reference
      → valued (values (vs ++ x ∷ []) l cs) n ≡ x
  here vs x cs n e b =
      let p : nat_lt n first_cell ≡ false = grind (arith, e) in
      let q : nat_lt n first_reference ≡ true = grind (arith, b) in
      let d : n - first_cell ≡ length vs = omega (arith, e) in
      let m : length (vs ++ x ∷ []) ≡ length vs + 1 = longer vs x in
      rw (p, q) (ap (λ i. get_or (values (vs ++ x ∷ []) l cs) i end) d
      ∙ (kept (vs ++ x ∷ []) l cs (length vs) (omega (arith, m)) ∙ get_last vs x))

  has_model : (vs : List Core) (cs : List Plain) (n : ℕ) → n ≡ first_cell + length vs → n + length cs ≤ first_reference
      → all_behind n l cs ≡ true → holds_from (valued (values vs l cs)) l n cs
  has_model vs [] n e b h = tt
  has_model vs (c ∷ cs) n e b h =
      let x : Core = plain_tree (valued vs) l c in
      let m : length (vs ++ x ∷ []) ≡ length vs + 1 = longer vs x in
      let k : is_behind n l c ≡ true = grind (arith, h) in
      let r : all_behind (n + 1) l cs ≡ true = grind (arith, h) in (
        here vs x cs n e (omega (arith, b))
            ∙ same_tree (valued vs) (valued (values (vs ++ x ∷ []) l cs)) n l
            (λ i w. same_known vs (c ∷ cs) n i e (omega (arith, b)) w) c k,
        has_model (vs ++ x ∷ []) cs (n + 1) (omega (arith, m, e)) (omega (arith, b)) r,
      )

fixed_model : (vs : List Core) (k : ℕ) → k < first_cell → valued vs k ≡ fixed k
fixed_model vs k h = let p : nat_lt k first_cell ≡ true = grind (arith, h) in rw p refl

reference_model : (vs : List Core) (k : ℕ) → first_reference ≤ k → valued vs k ≡ fixed k
reference_model vs k h =
    let p : nat_lt k first_cell ≡ false = grind (arith, h) in
    let q : nat_lt k first_reference ≡ false = grind (arith, h) in
    rw (p, q) refl

pub model_holds : (v : View) → first_cell + length v.cells ≤ first_reference
    → all_behind first_cell v.list v.cells ≡ true
    → Holds (model v) v
unfolding model
model_holds v b h = record {
  cells = has_model v.list [] v.cells first_cell (omega arith) b h;
  constants = fixed_model (values [] v.list v.cells);
  references = reference_model (values [] v.list v.cells);
}
