-- The trees of an arena are what each index stands for: that of a cell, or one that is the same everywhere.
use Rattle.std.proofs.Common.{◌≡◌, refl, ap, ◌∙◌, sym, ℕ, suc, zero, ◌≤◌, ◌<◌, ◌+◌, ◌-◌, ◌/◌, ◌%◌, Bool, true, false}
use Rattle.std.proofs.Common.{List, [], ◌∷◌, length, nat_lt, nat_le, nat_eq, subst, arith, pos}
use Rattle.demangle_core.specs.Core as core
use Rattle.demangle_core.specs.Core.{Core, end, node, number, flag, chosen, ref, mark, ◌⊕◌, N, U}
use Rattle.demangle_grammar.specs.Tree.{reference}
use Rattle.demangle_cells.specs.Tags.{tag_of}
use Rattle.demangle_cells.specs.Fixed.{fixed, constant, block_tree, single_tree, first_cell, first_reference}
use Rattle.demangle_cells.specs.Fixed.{first_other}
use Rattle.demangle_cells.specs.Cells.{plain_tree, row, span, holds_from}
use Rattle.demangle_cells.specs.Behind.{is_known, is_kept, all_known, is_behind, all_behind}
use Rattle.demangle_cells.specs.Model.{model}
use Rattle.demangle_cells.specs.Stored.{stored}
use Rattle.demangle_cells.specs.View.{View, view, Holds}
use Rattle.demangle_cells.specs.declared.arena.Arena.{Arena}
use Rattle.demangle_cells.specs.declared.plain.Plain.{Plain}
use Rattle.demangle_cells.specs.declared.plain.Plain.TheVariants as of_plain
use Rattle.demangle_cells.proofs.Exists.{model_holds}
use Rattle.demangle_cell_trees.specs.ArenaTrees.{absent, trees, tree_at}

-- ---- the tree of a cell is told by its parts
same_row : (F G : ℕ → Core) (n : ℕ) → ((i : ℕ) → is_known n i ≡ true → F i ≡ G i) → (ks : List ℕ)
    → all_known n ks ≡ true → row F ks ≡ row G ks
same_row F G n e [] h = refl
same_row F G n e (k ∷ []) h = e k (grind (arith, h))
same_row F G n e (k ∷ j ∷ js) h =
    let a : is_known n k ≡ true = grind (arith, h) in
    let b : all_known n (j ∷ js) ≡ true = grind (arith, h) in
    let r : row F (j ∷ js) ≡ row G (j ∷ js) = same_row F G n e (j ∷ js) b in
    ap (λ x. x ⊕ row F (j ∷ js)) (e k a) ∙ ap (λ x. G k ⊕ x) r

same_tree : (F G : ℕ → Core) (n : ℕ) (l : List ℕ) → ((i : ℕ) → is_known n i ≡ true → F i ≡ G i) → (c : Plain)
    → is_behind n l c ≡ true → plain_tree F l c ≡ plain_tree G l c
same_tree F G n l e (of_plain.One t a) h = ap (λ x. node (tag_of t) x end) (e a h)
same_tree F G n l e (of_plain.Two t a b) h =
    let k : all_known n (a ∷ b ∷ []) ≡ true = grind (arith, h) in
    ap (λ x. node (tag_of t) x end) (same_row F G n e (a ∷ b ∷ []) k)
same_tree F G n l e (of_plain.Three t a b c) h =
    let k : all_known n (a ∷ b ∷ c ∷ []) ≡ true = grind (arith, h) in
    ap (λ x. node (tag_of t) x end) (same_row F G n e (a ∷ b ∷ c ∷ []) k)
same_tree F G n l e (of_plain.Many t start count) h =
    let k : all_known n (span l start count) ≡ true = grind (arith, h) in
    ap (λ x. node (tag_of t) x end) (same_row F G n e (span l start count) k)
same_tree F G n l e (of_plain.Arguments i a) h = ap (λ x. node core.Tag.TemplateArgs (mark i x) end) (e a h)
same_tree F G n l e _ h = refl

-- ---- another F that is the same at each known index
known_later : (n m i : ℕ) → n ≤ m → is_known n i ≡ true → is_known m i ≡ true
known_later n m i h k = grind (arith, h, k)

same_cells : (F G : ℕ → Core) (l : List ℕ) (n m : ℕ) (cs : List Plain) → ((i : ℕ) → is_known m i ≡ true → F i ≡ G i)
    → n + length cs ≤ m → all_behind n l cs ≡ true → holds_from F l n cs → holds_from G l n cs
same_cells F G l n m [] e b h holds = tt
same_cells F G l n m (c ∷ cs) e b h holds =
    let k : is_behind n l c ≡ true = grind (arith, h) in
    let r : all_behind (n + 1) l cs ≡ true = grind (arith, h) in
    let o : is_known m n ≡ true = grind (arith, b) in
    let f : (i : ℕ) → is_known n i ≡ true → F i ≡ G i = λ i w. e i (known_later n m i (omega (arith, b)) w) in (
      sym (e n o) ∙ (holds.0 ∙ same_tree F G n l f c k),
      same_cells F G l (n + 1) m cs e (omega (arith, b)) r holds.1,
    )

module _ (v : View) where
  same_known : (i : ℕ) → is_known (first_cell + length v.cells) i ≡ true → model v i ≡ trees v i
  same_known i h = rw h refl

  low_known : (k : ℕ) → k < first_cell → is_known (first_cell + length v.cells) k ≡ true
  low_known k h = grind (arith, h)

  high_known : (k : ℕ) → first_reference ≤ k → is_known (first_cell + length v.cells) k ≡ true
  high_known k h = grind (arith, h)

  holds : first_cell + length v.cells ≤ first_reference → all_behind first_cell v.list v.cells ≡ true
      → Holds (trees v) v
  holds b h =
      let m : Holds (model v) v = model_holds v b h in
      record {
        cells = same_cells (model v) (trees v) v.list first_cell (first_cell + length v.cells) v.cells same_known
            (omega arith) h m.cells;
        constants = λ k p. sym (same_known k (low_known k p)) ∙ m.constants k p;
        references = λ k p. sym (same_known k (high_known k p)) ∙ m.references k p;
      }

pub trees_hold : (a : Arena) → Holds (tree_at a) (view a)
unfolding view stored tree_at
trees_hold a = holds (view a) a.store.few a.store.behind

-- ---- what holds of each tree that is the same everywhere
-- no reference and no mark stands at the front
abbrev pub is_plain : Core → Bool
is_plain (ref w k n) = false
is_plain (mark i n) = false
is_plain _ = true

module _ (P : Core → Type 0) (words : (t w : ℕ) → P (chosen t w end)) (flags : (b : Bool) → P (flag b end))
    (nought : P (number (pos 0) end)) (nodes : (t : core.Tag) (c : Core) → is_plain c ≡ true → P (node t c end))
    (numbered : (k : ℕ) → P (reference N k)) (others : (k : ℕ) → P (reference U k)) where
  of_single : (w : ℕ) → P (single_tree w)
  of_single w = by (nat_eq w 0) (nat_eq w 1) (nat_eq w 2) (nat_eq w 3) (nat_eq w 4) (nat_lt w 8) (nat_lt w 16)
      refl refl refl refl refl refl refl
    where
      by : (a b c d e f g : Bool) → nat_eq w 0 ≡ a → nat_eq w 1 ≡ b → nat_eq w 2 ≡ c → nat_eq w 3 ≡ d
          → nat_eq w 4 ≡ e → nat_lt w 8 ≡ f → nat_lt w 16 ≡ g → P (single_tree w)
      by true b c d e f g p q r s t u v = rw p (flags false)
      by false true c d e f g p q r s t u v = rw (p, q) (flags true)
      by false false true d e f g p q r s t u v = rw (p, q, r) (nodes core.Tag.Absent end refl)
      by false false false true e f g p q r s t u v = rw (p, q, r, s) nought
      by false false false false true f g p q r s t u v = rw (p, q, r, s, t) (nodes core.Tag.Several end refl)
      by false false false false false true g p q r s t u v =
          rw (p, q, r, s, t, u) (nodes core.Tag.AbiTags (node core.Tag.Several end end) refl)
      by false false false false false false true p q r s t u v =
          rw (p, q, r, s, t, u, v) (nodes core.Tag.CvQualifiers _ refl)
      by false false false false false false false p q r s t u v =
          rw (p, q, r, s, t, u, v) (nodes core.Tag.Present (chosen 3 (w - 16) end) refl)

  of_block : (b w : ℕ) → P (block_tree b w)
  of_block b w = by (nat_lt b 5) (nat_eq b 5) (nat_eq b 6) (nat_eq b 7) refl refl refl refl
    where
      by : (p q r s : Bool) → nat_lt b 5 ≡ p → nat_eq b 5 ≡ q → nat_eq b 6 ≡ r → nat_eq b 7 ≡ s → P (block_tree b w)
      by true q r s h i j k = rw h (words b w)
      by false true r s h i j k = rw (h, i) (nodes core.Tag.BuiltinTypeStandard (chosen 1 w end) refl)
      by false false true s h i j k = rw (h, i, j) (of_single w)
      by false false false true h i j k = rw (h, i, j, k) (nodes core.Tag.OperatorNameSimple (chosen 0 w end) refl)
      by false false false false h i j k = rw (h, i, j, k) (nodes core.Tag.TypeHandleBuiltin _ refl)

  pub of_fixed : (k : ℕ) → P (fixed k)
  unfolding fixed constant
  of_fixed k = by (nat_lt k first_cell) (nat_lt k first_other) refl refl
    where
      by : (p q : Bool) → nat_lt k first_cell ≡ p → nat_lt k first_other ≡ q → P (fixed k)
      by true q h i = rw h (of_block (k / 256) (k % 256))
      by false true h i = rw (h, i) (numbered (k - first_reference))
      by false false h i = rw (h, i) (others (k - first_other))

-- ---- what holds of each tree of an arena
module _ (P : Core → Type 0) (v : View) (h : Holds (trees v) v) (fixed_has : (k : ℕ) → P (fixed k))
    (none : P absent) where
  beside_of : (k : ℕ) → is_kept (length v.cells) k ≡ false → P (trees v k)
  beside_of k o = by (nat_lt k first_cell) (nat_le first_reference k) refl refl
    where
      by : (p q : Bool) → nat_lt k first_cell ≡ p → nat_le first_reference k ≡ q → P (trees v k)
      by true q e f = subst P (sym (h.constants k (grind (arith, e)))) (fixed_has k)
      by false true e f = subst P (sym (h.references k (grind (arith, f)))) (fixed_has k)
      by false false e f =
          let n : is_known (first_cell + length v.cells) k ≡ false = grind (arith, e, f, o) in
          rw n none

  module _ (cells_have : (c : Plain) → P (plain_tree (trees v) v.list c)) where
    of_cells : (n : ℕ) (cs : List Plain) → holds_from (trees v) v.list n cs → (i : ℕ) → i < length cs
        → P (trees v (n + i))
    of_cells n [] g i b = absurd (omega (arith, b))
    of_cells n (c ∷ cs) g zero b =
        let z : n + zero ≡ n = omega arith in
        subst (λ m. P (trees v m)) (sym z) (subst P (sym g.0) (cells_have c))
    of_cells n (c ∷ cs) g (suc i) b =
        let z : n + suc i ≡ (n + 1) + i = omega arith in
        subst (λ m. P (trees v m)) (sym z) (of_cells (n + 1) cs g.1 i (omega (arith, b)))

    each_of : (k : ℕ) → P (trees v k)
    each_of k = by (is_kept (length v.cells) k) refl
      where
        by : (p : Bool) → is_kept (length v.cells) k ≡ p → P (trees v k)
        by false o = beside_of k o
        by true o =
            let i : first_cell + (k - first_cell) ≡ k = grind (arith, o) in
            let b : k - first_cell < length v.cells = grind (arith, o) in
            subst (λ m. P (trees v m)) i (of_cells first_cell v.cells h.cells (k - first_cell) b)

pub each : (P : Core → Type 0) (a : Arena) → ((k : ℕ) → P (fixed k)) → P absent
    → ((c : Plain) → P (plain_tree (tree_at a) (view a).list c)) → (k : ℕ) → P (tree_at a k)
unfolding tree_at
each P a f n c k = each_of P (view a) (trees_hold a) f n c k

pub beside : (P : Core → Type 0) (a : Arena) → ((k : ℕ) → P (fixed k)) → P absent → (k : ℕ)
    → is_kept (length (view a).cells) k ≡ false → P (tree_at a k)
unfolding tree_at
beside P a f n k o = beside_of P (view a) (trees_hold a) f n k o

pub absent_is : (a : Arena) (k : ℕ) → is_known (first_cell + length (view a).cells) k ≡ false → tree_at a k ≡ absent
unfolding tree_at
absent_is a k h = rw h refl
