-- What numbers stand for.
use Rattle.std.proofs.Common.{◌≡◌, refl, ap, ◌∙◌, sym, ℕ, ◌<◌, ◌+◌, ◌-◌, true, false, List, Option, Some, None}
use Rattle.std.proofs.Common.{IfSome, nat_lt, arith}
use Rattle.std.specs.Prelude.{option_map}
use Rattle.demangle_core.specs.Table.{Table}
use Rattle.demangle_cells.specs.Cells.{plain_tree}
use Rattle.demangle_cells.specs.View.{view}
use Rattle.demangle_cells.specs.declared.arena.Arena.{Arena}
use Rattle.demangle_cells.specs.declared.plain.Plain.{Plain}
use Rattle.demangle_cells.specs.declared.plain.Plain.TheVariants as of_plain
use Rattle.demangle_printing.specs.Trees.{look_in}
use Rattle.demangle_lines.specs.Shapes.{shape_in}
use Rattle.demangle_lines.specs.declared.tree.Shape.{Shape}
use Rattle.demangle_cell_trees.specs.ArenaTrees.{Sees, first_inside, node_at, tree_at}
use Rattle.demangle_cell_trees.specs.Codes.{IsPart, coded, quick_of, of_others, past_others}
use Rattle.demangle_cell_trees.specs.Own.{own_shape_in, is_reference}
use Rattle.demangle_cell_trees.proofs.Looks.{index_node, shape_is}

-- ---- parts
-- the node of the index of a part
pub part_coded : (a b : Arena) (o : Option ℕ) (n : ℕ) → IsPart o n → coded a b n ≡ option_map (tree_at a) o
part_coded a b None n p =
    let i : nat_lt n of_others ≡ false = grind (arith, p.is) in
    let j : nat_lt n past_others ≡ false = grind (arith, p.is) in
    rw (i, j) refl
part_coded a b (Some k) n p =
    let e : n ≡ k = p.is in
    let s : k < first_inside = p.small in
    let i : nat_lt n of_others ≡ true = grind (arith, e, s) in
    rw i (ap Some (index_node a n (omega (arith, e, s)) ∙ ap (tree_at a) e))

-- a node of the second arena
pub other_coded : (a b : Arena) (n : ℕ) → n < first_inside → coded a b (of_others + n) ≡ Some (node_at b n)
other_coded a b n h =
    let i : nat_lt (of_others + n) of_others ≡ false = grind arith in
    let j : nat_lt (of_others + n) past_others ≡ true = grind (arith, h) in
    let d : (of_others + n) - of_others ≡ n = omega arith in
    rw (i, j, d) refl

-- ---- shapes
module _ (a : Arena) (k : ℕ) (c : Plain) (e : Sees a k c) where
  by_shape : is_reference c ≡ false → (s : Shape) → own_shape_in (plain_tree (tree_at a) (view a).list c) ≡ s
      → (t : Table) (input : List ℕ) → s ≡ shape_in (look_in t input (node_at a k))
  by_shape r s h t input = sym (shape_is a k c e r t input ∙ h)

pub quick_is : (a : Arena) (k : ℕ) (c : Plain) → Sees a k c
    → IfSome (quick_of c) (λ s. (t : Table) (input : List ℕ) → s ≡ shape_in (look_in t input (node_at a k)))
quick_is a k (of_plain.Empty t) e = by_shape a k (of_plain.Empty t) e refl _ refl
quick_is a k (of_plain.One t i) e = by_shape a k (of_plain.One t i) e refl _ refl
quick_is a k (of_plain.Two t i j) e = by_shape a k (of_plain.Two t i j) e refl _ refl
quick_is a k (of_plain.Three t i j l) e = by_shape a k (of_plain.Three t i j l) e refl _ refl
quick_is a k (of_plain.Many t i j) e = by_shape a k (of_plain.Many t i j) e refl _ refl
quick_is a k (of_plain.Arguments i m) e = by_shape a k (of_plain.Arguments i m) e refl _ refl
quick_is a k (of_plain.Place i j) e = by_shape a k (of_plain.Place i j) e refl _ refl
quick_is a k (of_plain.Number v) e = tt
quick_is a k (of_plain.Counted n) e = tt
quick_is a k (of_plain.Word t w) e = tt
quick_is a k (of_plain.Flag b) e = tt
quick_is a k (of_plain.Reference i) e = tt
quick_is a k (of_plain.Other i) e = tt

pub quick_at : (P : Shape → Type 0) (o p : Option Shape) → o ≡ p → IfSome p P → IfSome o P
quick_at P o p e h = rw e h
