-- What is seen of the tree of a cell, and of a node.
use Rattle.std.proofs.Common.{◌≡◌, refl, ap, ◌∙◌, sym, ℕ, suc, zero, ◌<◌, ◌≤◌, ◌%◌, ◌+◌, ◌-◌, Bool, true, false, List}
use Rattle.std.proofs.Common.{[], ◌∷◌, length, map, Option, Some, None, IfSome, MatchOption, pos, nat_lt, arith}
use Rattle.std.specs.Prelude.{option_map}
use Rattle.demangle_core.specs.Core as core
use Rattle.demangle_core.specs.Core.{Core, end, node, place, number, flag, chosen, ref, mark, ◌⊕◌, Which, N, U}
use Rattle.demangle_core.specs.Table.{Table, entry_at}
use Rattle.demangle_grammar.specs.Sound.{bytes_of}
use Rattle.demangle_grammar.specs.Tree.{reference}
use Rattle.demangle_cells.specs.Behind.{is_known, is_kept}
use Rattle.demangle_cells.specs.Fixed.{fixed, first_cell, first_reference, first_other}
use Rattle.demangle_cells.specs.Tags.{tag_of}
use Rattle.demangle_cells.specs.Cells.{plain_tree, row, span}
use Rattle.demangle_cells.specs.View.{Holds, view}
use Rattle.demangle_cells.specs.declared.arena.Arena.{Arena}
use Rattle.demangle_cells.specs.declared.plain.Plain.{Plain}
use Rattle.demangle_cells.specs.declared.plain.Plain.TheVariants as of_plain
use Rattle.demangle_cells.specs.declared.tag.Tag.{Tag}
use Rattle.demangle_cells.specs.declared.tag.Tag.TheVariants as of_tag
use Rattle.demangle_printing.specs.World.{Seen, parts_seen, nth}
use Rattle.demangle_printing.specs.World as seen
use Rattle.demangle_printing.specs.Reader.{bytes_seen}
use Rattle.demangle_printing.specs.Trees.{trees_of, look_in, look_component, began_at}
use Rattle.demangle_lines.specs.Shapes.{shape_in, value_seen, text_seen, leaf_text_seen}
use Rattle.demangle_cell_trees.specs.ArenaTrees.{IsBeside, IsCell, Sees, absent, first_inside}
use Rattle.demangle_cell_trees.specs.ArenaTrees.{inside, node_at, tree_at}
use Rattle.demangle_cell_trees.specs.Own.{is_end, is_single, own_shape_in, parts_in, has_plain, row_of, row_tag}
use Rattle.demangle_cell_trees.specs.Own.{is_reference, place_in, value_in, began_in, text_in, leaf_text_in}
use Rattle.demangle_cell_trees.proofs.Hold.{is_plain, of_fixed, each, beside, absent_is, trees_hold}

-- ---- single trees
pub ended : (c : Core) → is_end c ≡ true → c ≡ end
ended end h = refl
ended _ h = cc

single_tree : (F : ℕ → Core) (l : List ℕ) (c : Plain) → is_single (plain_tree F l c) ≡ true
single_tree F l (of_plain.Empty t) = refl
single_tree F l _ = refl

abbrev IsSingle : Core → Type 0
IsSingle x = is_single x ≡ true

pub single : (a : Arena) (k : ℕ) → is_single (tree_at a k) ≡ true
single a k =
    each IsSingle a
    (of_fixed IsSingle (λ t w. refl) (λ b. refl) refl (λ t c h. refl) (λ k. refl) (λ k. refl))
    refl (single_tree (tree_at a) (view a).list) k

-- one tree before others
before : (x y : Core) → is_single x ≡ true → trees_of (x ⊕ y) ≡ x ∷ trees_of y
before end y h = cc
before (node t c n) y h = let e : n ≡ end = ended n h in rw e refl
before (place i j n) y h = let e : n ≡ end = ended n h in rw e refl
before (number v n) y h = let e : n ≡ end = ended n h in rw e refl
before (flag b n) y h = let e : n ≡ end = ended n h in rw e refl
before (chosen t k n) y h = let e : n ≡ end = ended n h in rw e refl
before (ref w k n) y h = cc
before (mark i n) y h = cc

pub alone : (x : Core) → is_single x ≡ true → trees_of x ≡ x ∷ []
alone end h = cc
alone (node t c n) h = let e : n ≡ end = ended n h in rw e refl
alone (place i j n) h = let e : n ≡ end = ended n h in rw e refl
alone (number v n) h = let e : n ≡ end = ended n h in rw e refl
alone (flag b n) h = let e : n ≡ end = ended n h in rw e refl
alone (chosen t k n) h = let e : n ≡ end = ended n h in rw e refl
alone (ref w k n) h = cc
alone (mark i n) h = cc

-- ---- rows of parts
module _ (F : ℕ → Core) (s : (k : ℕ) → is_single (F k) ≡ true) where
  row_parts : (ks : List ℕ) → trees_of (row F ks) ≡ map F ks
  row_parts [] = refl
  row_parts (k ∷ []) = alone (F k) (s k)
  row_parts (k ∷ j ∷ js) = before (F k) (row F (j ∷ js)) (s k) ∙ ap (λ x. F k ∷ x) (row_parts (j ∷ js))

plain_before : (x y : Core) → is_single x ≡ true → is_plain (x ⊕ y) ≡ true
plain_before end y h = cc
plain_before (node t c n) y h = refl
plain_before (place i j n) y h = refl
plain_before (number v n) y h = refl
plain_before (flag b n) y h = refl
plain_before (chosen t k n) y h = refl
plain_before (ref w k n) y h = cc
plain_before (mark i n) y h = cc

plain_alone : (x : Core) → is_single x ≡ true → is_plain x ≡ true
plain_alone end h = cc
plain_alone (node t c n) h = refl
plain_alone (place i j n) h = refl
plain_alone (number v n) h = refl
plain_alone (flag b n) h = refl
plain_alone (chosen t k n) h = refl
plain_alone (ref w k n) h = cc
plain_alone (mark i n) h = cc

module _ (F : ℕ → Core) (s : (k : ℕ) → is_single (F k) ≡ true) where
  plain_row : (ks : List ℕ) → is_plain (row F ks) ≡ true
  plain_row [] = refl
  plain_row (k ∷ []) = plain_alone (F k) (s k)
  plain_row (k ∷ j ∷ js) = plain_before (F k) (row F (j ∷ js)) (s k)

-- ---- nodes whose parts are no references
pub plain_node : (t : core.Tag) (c n : Core) → is_plain c ≡ true → has_plain (node t c n) ≡ true
plain_node t (ref w k m) n h = cc
plain_node t _ n h = refl

pub plain_cell : (F : ℕ → Core) → ((k : ℕ) → is_single (F k) ≡ true) → (l : List ℕ) (c : Plain) → is_reference c ≡ false
    → has_plain (plain_tree F l c) ≡ true
plain_cell F s l (of_plain.One t a) h = plain_node (tag_of t) (row F (a ∷ [])) end (plain_row F s (a ∷ []))
plain_cell F s l (of_plain.Two t a b) h = plain_node (tag_of t) (row F (a ∷ b ∷ [])) end (plain_row F s (a ∷ b ∷ []))
plain_cell F s l (of_plain.Three t a b c) h =
    plain_node (tag_of t) (row F (a ∷ b ∷ c ∷ [])) end (plain_row F s (a ∷ b ∷ c ∷ []))
plain_cell F s l (of_plain.Many t start count) h =
    plain_node (tag_of t) (row F (span l start count)) end (plain_row F s (span l start count))
plain_cell F s l (of_plain.Reference k) h = cc
plain_cell F s l (of_plain.Other k) h = cc
plain_cell F s l _ h = refl

module _ (table : Table) (input : List ℕ) where
  seen_node : (t : core.Tag) (c n : Core) → has_plain (node t c n) ≡ true
      → look_in table input (node t c n) ≡ seen.node t (trees_of c)
  seen_node t (ref w k m) n h = cc
  seen_node t end n h = refl
  seen_node t (node u d m) n h = refl
  seen_node t (place i j m) n h = refl
  seen_node t (number v m) n h = refl
  seen_node t (flag b m) n h = refl
  seen_node t (chosen u k m) n h = refl
  seen_node t (mark i m) n h = refl

  plain_shape : (x : Core) → is_single x ≡ true → has_plain x ≡ true → shape_in (look_in table input x) ≡ own_shape_in x
  plain_shape end s h = cc
  plain_shape (node t c n) s h = ap shape_in (seen_node t c n h)
  plain_shape (place i j n) s h = refl
  plain_shape (number v n) s h = refl
  plain_shape (flag b n) s h = refl
  plain_shape (chosen t k n) s h = refl
  plain_shape (ref w k n) s h = cc
  plain_shape (mark i n) s h = cc

  plain_parts : (x : Core) → is_single x ≡ true → has_plain x ≡ true → parts_seen (look_in table input x) ≡ parts_in x
  plain_parts end s h = cc
  plain_parts (node t c n) s h = ap parts_seen (seen_node t c n h)
  plain_parts (place i j n) s h = refl
  plain_parts (number v n) s h = refl
  plain_parts (flag b n) s h = refl
  plain_parts (chosen t k n) s h = refl
  plain_parts (ref w k n) s h = cc
  plain_parts (mark i n) s h = cc

-- ---- cells
length_map : {A B : Type 0} (f : A → B) (xs : List A) → length (map f xs) ≡ length xs
length_map f [] = refl
length_map f (x ∷ xs) = ap suc (length_map f xs)

pub nth_map : {A B : Type 0} (f : A → B) (n : ℕ) (xs : List A) → nth n (map f xs) ≡ option_map f (nth n xs)
nth_map f n [] = refl
nth_map f zero (x ∷ xs) = refl
nth_map f (suc n) (x ∷ xs) = nth_map f n xs

module _ (F : ℕ → Core) (s : (k : ℕ) → is_single (F k) ≡ true) (l : List ℕ) where
  row_parts_in : (c : Plain) → is_reference c ≡ false → parts_in (plain_tree F l c) ≡ map F (row_of l c)
  row_parts_in (of_plain.One t a) h = row_parts F s (a ∷ [])
  row_parts_in (of_plain.Two t a b) h = row_parts F s (a ∷ b ∷ [])
  row_parts_in (of_plain.Three t a b c) h = row_parts F s (a ∷ b ∷ c ∷ [])
  row_parts_in (of_plain.Many t start count) h = row_parts F s (span l start count)
  row_parts_in (of_plain.Arguments i m) h = alone (F m) (s m)
  row_parts_in (of_plain.Reference k) h = cc
  row_parts_in (of_plain.Other k) h = cc
  row_parts_in _ h = refl

-- the parts of a cell that is no reference
module _ (a : Arena) (c : Plain) (r : is_reference c ≡ false) where
  abbrev cell_tree : Core
  cell_tree = plain_tree (tree_at a) (view a).list c

  pub plain_is : has_plain cell_tree ≡ true
  plain_is = plain_cell (tree_at a) (single a) (view a).list c r

  pub row_is : parts_in cell_tree ≡ map (tree_at a) (row_of (view a).list c)
  row_is = row_parts_in (tree_at a) (single a) (view a).list c r

  pub nth_is : (n : ℕ) → nth n (parts_in cell_tree) ≡ option_map (tree_at a) (nth n (row_of (view a).list c))
  nth_is n = ap (nth n) row_is ∙ nth_map (tree_at a) n (row_of (view a).list c)

  pub length_is : length (parts_in cell_tree) ≡ length (row_of (view a).list c)
  length_is = ap length row_is ∙ length_map (tree_at a) (row_of (view a).list c)

-- a cell whose parts have indexes
row_node : (a : Arena) (t : Tag) (ks : List ℕ) (table : Table) (input : List ℕ)
    → look_in table input (node (tag_of t) (row (tree_at a) ks) end) ≡ seen.node (tag_of t) (map (tree_at a) ks)
row_node a t ks table input =
    seen_node table input (tag_of t) (row (tree_at a) ks) end
    (plain_node (tag_of t) (row (tree_at a) ks) end (plain_row (tree_at a) (single a) ks))
    ∙ ap (seen.node (tag_of t)) (row_parts (tree_at a) (single a) ks)

some_same : (t u : Tag) → Some t ≡ Some u → t ≡ u
some_same t u h = cc

pub row_look : (a : Arena) (c : Plain) (t : Tag) → row_tag c ≡ Some t → (table : Table) (input : List ℕ)
    → look_in table input (plain_tree (tree_at a) (view a).list c)
    ≡ seen.node (tag_of t) (map (tree_at a) (row_of (view a).list c))
row_look a (of_plain.Empty u) t h table input = ap (λ v. seen.node (tag_of v) []) (some_same u t h)
row_look a (of_plain.One u i) t h table input =
    row_node a u (i ∷ []) table input ∙ ap (λ v. seen.node (tag_of v) (tree_at a i ∷ [])) (some_same u t h)
row_look a (of_plain.Two u i j) t h table input =
    row_node a u (i ∷ j ∷ []) table input
    ∙ ap (λ v. seen.node (tag_of v) (map (tree_at a) (i ∷ j ∷ []))) (some_same u t h)
row_look a (of_plain.Three u i j k) t h table input =
    row_node a u (i ∷ j ∷ k ∷ []) table input
    ∙ ap (λ v. seen.node (tag_of v) (map (tree_at a) (i ∷ j ∷ k ∷ []))) (some_same u t h)
row_look a (of_plain.Many u s n) t h table input =
    row_node a u (span (view a).list s n) table input
    ∙ ap (λ v. seen.node (tag_of v) (map (tree_at a) (span (view a).list s n))) (some_same u t h)
row_look a (of_plain.Arguments i m) t h table input =
    ap (seen.node core.Tag.TemplateArgs) (alone (tree_at a m) (single a m))
    ∙ ap (λ v. seen.node (tag_of v) (tree_at a m ∷ [])) (some_same of_tag.TemplateArgs t h)
row_look a _ t h table input = cc

-- a component that has such a cell
component_parts : (x : Core) → parts_seen (look_component (Some x)) ≡ parts_in x
component_parts end = refl
component_parts (node t c n) = refl
component_parts (place i j n) = refl
component_parts (number v n) = refl
component_parts (flag b n) = refl
component_parts (chosen t k n) = refl
component_parts (ref w k n) = refl
component_parts (mark i n) = refl

pub component_length : (a : Arena) (k : ℕ) (c : Plain) → IsCell a k c → is_reference c ≡ false
    → length (parts_seen (look_component (Some (tree_at a k)))) ≡ length (row_of (view a).list c)
component_length a k c e r = ap length (component_parts (tree_at a k) ∙ ap parts_in e.is) ∙ length_is a c r

-- ---- a node that has such a cell
module _ (a : Arena) (k : ℕ) (c : Plain) (e : Sees a k c) (r : is_reference c ≡ false) (t : Table) (input : List ℕ)
  where
    pub shape_is : shape_in (look_in t input (node_at a k)) ≡ own_shape_in (plain_tree (tree_at a) (view a).list c)
    shape_is =
        ap shape_in (e.look t input)
        ∙ plain_shape t input (plain_tree (tree_at a) (view a).list c) (single_tree (tree_at a) (view a).list c)
        (plain_is a c r)

    parts_are : parts_seen (look_in t input (node_at a k)) ≡ parts_in (plain_tree (tree_at a) (view a).list c)
    parts_are =
        ap parts_seen (e.look t input)
        ∙ plain_parts t input (plain_tree (tree_at a) (view a).list c) (single_tree (tree_at a) (view a).list c)
        (plain_is a c r)

    pub part_is : (n : ℕ) → nth n (parts_seen (look_in t input (node_at a k)))
        ≡ option_map (tree_at a) (nth n (row_of (view a).list c))
    part_is n = ap (nth n) parts_are ∙ nth_is a c r n

    pub count_is : length (parts_seen (look_in t input (node_at a k))) ≡ length (row_of (view a).list c)
    count_is = ap length parts_are ∙ length_is a c r

-- ---- values: what is no node has them
module _ {B : Type 0} (f : Seen Core → B) (b : B) (e : f seen.nothing ≡ b) (g : (t : core.Tag) (xs : List Core)
    → f (seen.node t xs) ≡ b) where
  of_component : (o : Option Core) → f (look_component o) ≡ b
  of_component None = e
  of_component (Some (node t c n)) = g t (trees_of c)
  of_component (Some end) = e
  of_component (Some (place i j n)) = e
  of_component (Some (number v n)) = e
  of_component (Some (flag v n)) = e
  of_component (Some (chosen t k n)) = e
  of_component (Some (ref w k n)) = e
  of_component (Some (mark i n)) = e

  of_node : (table : Table) (input : List ℕ) (t : core.Tag) (c n : Core) → f (look_in table input (node t c n)) ≡ b
  of_node table input t (ref w k m) n = of_component (entry_at w k table)
  of_node table input t end n = g t []
  of_node table input t (node u d m) n = g t (trees_of (node u d m))
  of_node table input t (place i j m) n = g t (trees_of (place i j m))
  of_node table input t (number v m) n = g t (trees_of (number v m))
  of_node table input t (flag v m) n = g t (trees_of (flag v m))
  of_node table input t (chosen u k m) n = g t (trees_of (chosen u k m))
  of_node table input t (mark i m) n = g t (trees_of (mark i m))

pub bytes_of_cell : (F : ℕ → Core) (l : List ℕ) (c : Plain) (table : Table) (input : List ℕ)
    → bytes_seen (look_in table input (plain_tree F l c)) ≡ bytes_of input (place_in c).0 (place_in c).1
bytes_of_cell F l (of_plain.Place i j) table input = refl
bytes_of_cell F l (of_plain.Number v) table input = refl
bytes_of_cell F l (of_plain.Word t w) table input = refl
bytes_of_cell F l (of_plain.Flag b) table input = refl
bytes_of_cell F l (of_plain.Empty t) table input =
    of_node bytes_seen [] refl (λ u xs. refl) table input (tag_of t) end end
bytes_of_cell F l (of_plain.One t a) table input =
    of_node bytes_seen [] refl (λ u xs. refl) table input (tag_of t) (row F (a ∷ [])) end
bytes_of_cell F l (of_plain.Two t a b) table input =
    of_node bytes_seen [] refl (λ u xs. refl) table input (tag_of t) (row F (a ∷ b ∷ [])) end
bytes_of_cell F l (of_plain.Three t a b c) table input =
    of_node bytes_seen [] refl (λ u xs. refl) table input (tag_of t) (row F (a ∷ b ∷ c ∷ [])) end
bytes_of_cell F l (of_plain.Many t s n) table input =
    of_node bytes_seen [] refl (λ u xs. refl) table input (tag_of t) (row F (span l s n)) end
bytes_of_cell F l (of_plain.Reference k) table input =
    of_component bytes_seen [] refl (λ u xs. refl) (entry_at N k table)
bytes_of_cell F l (of_plain.Other k) table input =
    of_component bytes_seen [] refl (λ u xs. refl) (entry_at U k table)
bytes_of_cell F l _ table input = refl

pub value_of_cell : (F : ℕ → Core) (l : List ℕ) (c : Plain) (table : Table) (input : List ℕ)
    → value_seen (look_in table input (plain_tree F l c)) ≡ value_in c
value_of_cell F l (of_plain.One t a) table input =
    of_node value_seen (pos 0) refl (λ u xs. refl) table input (tag_of t) (row F (a ∷ [])) end
value_of_cell F l (of_plain.Two t a b) table input =
    of_node value_seen (pos 0) refl (λ u xs. refl) table input (tag_of t) (row F (a ∷ b ∷ [])) end
value_of_cell F l (of_plain.Three t a b c) table input =
    of_node value_seen (pos 0) refl (λ u xs. refl) table input (tag_of t) (row F (a ∷ b ∷ c ∷ [])) end
value_of_cell F l (of_plain.Many t s n) table input =
    of_node value_seen (pos 0) refl (λ u xs. refl) table input (tag_of t) (row F (span l s n)) end
value_of_cell F l (of_plain.Reference k) table input =
    of_component value_seen (pos 0) refl (λ u xs. refl) (entry_at N k table)
value_of_cell F l (of_plain.Other k) table input =
    of_component value_seen (pos 0) refl (λ u xs. refl) (entry_at U k table)
value_of_cell F l _ table input = refl

pub text_of_cell : (F : ℕ → Core) (l : List ℕ) (c : Plain) (table : Table) (input : List ℕ)
    → text_seen (look_in table input (plain_tree F l c)) ≡ text_in c
text_of_cell F l (of_plain.One t a) table input =
    of_node text_seen [] refl (λ u xs. refl) table input (tag_of t) (row F (a ∷ [])) end
text_of_cell F l (of_plain.Two t a b) table input =
    of_node text_seen [] refl (λ u xs. refl) table input (tag_of t) (row F (a ∷ b ∷ [])) end
text_of_cell F l (of_plain.Three t a b c) table input =
    of_node text_seen [] refl (λ u xs. refl) table input (tag_of t) (row F (a ∷ b ∷ c ∷ [])) end
text_of_cell F l (of_plain.Many t s n) table input =
    of_node text_seen [] refl (λ u xs. refl) table input (tag_of t) (row F (span l s n)) end
text_of_cell F l (of_plain.Reference k) table input = of_component text_seen [] refl (λ u xs. refl) (entry_at N k table)
text_of_cell F l (of_plain.Other k) table input = of_component text_seen [] refl (λ u xs. refl) (entry_at U k table)
text_of_cell F l _ table input = refl

pub leaf_text_of_cell : (F : ℕ → Core) (l : List ℕ) (c : Plain) (table : Table) (input : List ℕ)
    → leaf_text_seen (look_in table input (plain_tree F l c)) ≡ leaf_text_in c
leaf_text_of_cell F l (of_plain.One t a) table input =
    of_node leaf_text_seen [] refl (λ u xs. refl) table input (tag_of t) (row F (a ∷ [])) end
leaf_text_of_cell F l (of_plain.Two t a b) table input =
    of_node leaf_text_seen [] refl (λ u xs. refl) table input (tag_of t) (row F (a ∷ b ∷ [])) end
leaf_text_of_cell F l (of_plain.Three t a b c) table input =
    of_node leaf_text_seen [] refl (λ u xs. refl) table input (tag_of t) (row F (a ∷ b ∷ c ∷ [])) end
leaf_text_of_cell F l (of_plain.Many t s n) table input =
    of_node leaf_text_seen [] refl (λ u xs. refl) table input (tag_of t) (row F (span l s n)) end
leaf_text_of_cell F l (of_plain.Reference k) table input =
    of_component leaf_text_seen [] refl (λ u xs. refl) (entry_at N k table)
leaf_text_of_cell F l (of_plain.Other k) table input =
    of_component leaf_text_seen [] refl (λ u xs. refl) (entry_at U k table)
leaf_text_of_cell F l _ table input = refl

-- ---- where a list began
unbegun : (t : core.Tag) (c n : Core) → is_plain c ≡ true → began_at (node t c n) ≡ 0
unbegun t (mark i m) n h = cc
unbegun t _ n h = refl

module _ (a : Arena) where
  began_of : (c : Plain) → began_at (plain_tree (tree_at a) (view a).list c) ≡ began_in c
  began_of (of_plain.One t k) =
      unbegun (tag_of t) (row (tree_at a) (k ∷ [])) end (plain_row (tree_at a) (single a) (k ∷ []))
  began_of (of_plain.Two t k j) =
      unbegun (tag_of t) (row (tree_at a) (k ∷ j ∷ [])) end (plain_row (tree_at a) (single a) (k ∷ j ∷ []))
  began_of (of_plain.Three t k j i) =
      unbegun (tag_of t) (row (tree_at a) (k ∷ j ∷ i ∷ [])) end (plain_row (tree_at a) (single a) (k ∷ j ∷ i ∷ []))
  began_of (of_plain.Many t s n) =
      unbegun (tag_of t) (row (tree_at a) (span (view a).list s n)) end
      (plain_row (tree_at a) (single a) (span (view a).list s n))
  began_of _ = refl

pub no_reference : (c : Plain) → ((k : ℕ) → c ≡ of_plain.Reference k → ⊥) → ((k : ℕ) → c ≡ of_plain.Other k → ⊥)
    → is_reference c ≡ false
no_reference (of_plain.Reference k) f g = absurd (f k refl)
no_reference (of_plain.Other k) f g = absurd (g k refl)
no_reference _ f g = refl

-- ---- values of a node
module _ (a : Arena) (k : ℕ) (c : Plain) (e : Sees a k c) where
  pub began_is : began_at (node_at a k) ≡ began_in c
  began_is = e.began ∙ began_of a c

  module _ (t : Table) (input : List ℕ) where
    pub bytes_is : bytes_seen (look_in t input (node_at a k)) ≡ bytes_of input (place_in c).0 (place_in c).1
    bytes_is = ap bytes_seen (e.look t input) ∙ bytes_of_cell (tree_at a) (view a).list c t input

    pub value_is : value_seen (look_in t input (node_at a k)) ≡ value_in c
    value_is = ap value_seen (e.look t input) ∙ value_of_cell (tree_at a) (view a).list c t input

    pub text_is : text_seen (look_in t input (node_at a k)) ≡ text_in c
    text_is = ap text_seen (e.look t input) ∙ text_of_cell (tree_at a) (view a).list c t input

    pub leaf_text_is : leaf_text_seen (look_in t input (node_at a k)) ≡ leaf_text_in c
    leaf_text_is = ap leaf_text_seen (e.look t input) ∙ leaf_text_of_cell (tree_at a) (view a).list c t input

-- ---- what is inside of a tree looks like it
inside_look : (t : Table) (input : List ℕ) (x : Core) → look_in t input (inside x) ≡ look_in t input x
inside_look t input (node u (ref w k m) n) = refl
inside_look t input (node u end n) = refl
inside_look t input (node u (node v c m) n) = refl
inside_look t input (node u (place i j m) n) = refl
inside_look t input (node u (number v m) n) = refl
inside_look t input (node u (flag b m) n) = refl
inside_look t input (node u (chosen v k m) n) = refl
inside_look t input (node u (mark i m) n) = refl
inside_look t input end = refl
inside_look t input _ = refl

inside_began : (x : Core) → began_at (inside x) ≡ began_at x
inside_began (node u (ref w k m) n) = refl
inside_began (node u end n) = refl
inside_began (node u (node v c m) n) = refl
inside_began (node u (place i j m) n) = refl
inside_began (node u (number v m) n) = refl
inside_began (node u (flag b m) n) = refl
inside_began (node u (chosen v k m) n) = refl
inside_began (node u (mark i m) n) = refl
inside_began end = refl
inside_began _ = refl

-- a node, by its index
module _ (P : Core → Core → Type 0) (same : (x : Core) → P x x) (within : (x : Core) → P (inside x) x) (a : Arena)
  where
    pub node_by : (k : ℕ) → P (node_at a k) (tree_at a (k % first_inside))
    node_by k = by (nat_lt k first_inside) refl
      where
        by : (b : Bool) → nat_lt k first_inside ≡ b → P (node_at a k) (tree_at a (k % first_inside))
        by true h =
            let e : k % first_inside ≡ k = grind (arith, h) in
            rw (h, e) (same (tree_at a k))
        by false h = rw h (within (tree_at a (k % first_inside)))

pub node_look : (a : Arena) (k : ℕ) (t : Table) (input : List ℕ)
    → look_in t input (node_at a k) ≡ look_in t input (tree_at a (k % first_inside))
node_look a k t input =
    node_by (λ x y. look_in t input x ≡ look_in t input y) (λ x. refl) (inside_look t input) a k

node_began : (a : Arena) (k : ℕ) → began_at (node_at a k) ≡ began_at (tree_at a (k % first_inside))
node_began a k = node_by (λ x y. began_at x ≡ began_at y) (λ x. refl) inside_began a k

pub sees : (a : Arena) (k : ℕ) (c : Plain) → IsCell a (k % first_inside) c → Sees a k c
sees a k c e = record {
  look = λ t input. node_look a k t input ∙ ap (look_in t input) e.is;
  began = node_began a k ∙ ap began_at e.is;
}

-- a tree of an index is a node
pub index_node : (a : Arena) (k : ℕ) → k < first_inside → node_at a k ≡ tree_at a k
index_node a k h = let b : nat_lt k first_inside ≡ true = grind (arith, h) in rw b refl

-- ---- references by their indexes
fixed_numbered : (k : ℕ) → first_reference ≤ k → k < first_other → fixed k ≡ reference N (k - first_reference)
unfolding fixed
fixed_numbered k h l =
    let i : nat_lt k first_cell ≡ false = grind (arith, h) in
    let j : nat_lt k first_other ≡ true = grind (arith, l) in
    rw (i, j) refl

fixed_other : (k : ℕ) → first_other ≤ k → fixed k ≡ reference U (k - first_other)
unfolding fixed
fixed_other k h =
    let i : nat_lt k first_cell ≡ false = grind (arith, h) in
    let j : nat_lt k first_other ≡ false = grind (arith, h) in
    rw (i, j) refl

pub numbered_tree : (a : Arena) (k : ℕ) → first_reference ≤ k → k < first_other
    → tree_at a k ≡ reference N (k - first_reference)
numbered_tree a k h l =
    let t : Holds (tree_at a) (view a) = trees_hold a in t.references k h ∙ fixed_numbered k h l

pub other_tree : (a : Arena) (k : ℕ) → first_other ≤ k → tree_at a k ≡ reference U (k - first_other)
other_tree a k h =
    let t : Holds (tree_at a) (view a) = trees_hold a in
    t.references k (omega (arith, h)) ∙ fixed_other k h

pub numbered_look : (a : Arena) (k i : ℕ) (t : Table) (input : List ℕ) → i ≡ k % first_inside → first_reference ≤ i
    → i < first_other
    → look_in t input (node_at a k) ≡ look_component (entry_at N (i - first_reference) t)
numbered_look a k i t input e h l =
    node_look a k t input ∙ ap (look_in t input) (ap (tree_at a) (sym e) ∙ numbered_tree a i h l)

pub other_look : (a : Arena) (k i : ℕ) (t : Table) (input : List ℕ) → i ≡ k % first_inside → first_other ≤ i
    → look_in t input (node_at a k) ≡ look_component (entry_at U (i - first_other) t)
other_look a k i t input e h =
    node_look a k t input ∙ ap (look_in t input) (ap (tree_at a) (sym e) ∙ other_tree a i h)

-- ---- what no cell is kept for has no bytes
abbrev HasNone : Core → Type 0
HasNone x = (t : Table) (input : List ℕ) → [] ≡ bytes_seen (look_in t input x)

fixed_none : (k : ℕ) → HasNone (fixed k)
fixed_none =
    of_fixed HasNone (λ t w table input. refl) (λ b table input. refl) (λ table input. refl)
    (λ u c h table input. sym (of_node bytes_seen [] refl (λ v xs. refl) table input u c end))
    (λ k table input. sym (of_component bytes_seen [] refl (λ v xs. refl) (entry_at N k table)))
    (λ k table input. sym (of_component bytes_seen [] refl (λ v xs. refl) (entry_at U k table)))

pub is_beside : (a : Arena) (k : ℕ) → is_kept (length (view a).cells) (k % first_inside) ≡ false → IsBeside a k
is_beside a k h = record {
  no_bytes = λ t input.
      beside HasNone a fixed_none (λ table i. refl) (k % first_inside) h t input
      ∙ ap bytes_seen (sym (node_look a k t input));
}

-- ---- the cells of an arena
pub kept_cell : (a : Arena) (k : ℕ) (o : Option Plain)
    → MatchOption o (is_kept (length (view a).cells) k ≡ false)
    (λ c. (F : ℕ → Core) → Holds F (view a) → F k ≡ plain_tree F (view a).list c)
    → IfSome o (λ c. IsCell a k c)
kept_cell a k None h = tt
kept_cell a k (Some c) h = record { is = h (tree_at a) (trees_hold a) }

-- what an index is, whether it has a cell or not
module _ (a : Arena) (i : ℕ) (c : Plain)
    (known : is_known (first_cell + length (view a).cells) i ≡ true → (F : ℕ → Core) → Holds F (view a)
    → F i ≡ plain_tree F (view a).list c)
    (unknown : is_known (first_cell + length (view a).cells) i ≡ false → (F : ℕ → Core) (l : List ℕ)
    → plain_tree F l c ≡ absent) where
  pub any_cell : IsCell a i c
  any_cell = by (is_known (first_cell + length (view a).cells) i) refl
    where
      by : (b : Bool) → is_known (first_cell + length (view a).cells) i ≡ b → IsCell a i c
      by true h = record { is = known h (tree_at a) (trees_hold a) }
      by false h = record { is = absent_is a i h ∙ sym (unknown h (tree_at a) (view a).list) }

  pub any_node : (k : ℕ) → i ≡ k % first_inside → Sees a k c
  any_node k e = sees a k c (record { is = ap (tree_at a) (sym e) ∙ any_cell.is })

pub kept_node : (a : Arena) (k i : ℕ) (o : Option Plain) → i ≡ k % first_inside
    → MatchOption o (is_kept (length (view a).cells) i ≡ false)
    (λ c. (F : ℕ → Core) → Holds F (view a) → F i ≡ plain_tree F (view a).list c)
    → MatchOption o (IsBeside a k) (λ c. Sees a k c)
kept_node a k i None e h = is_beside a k (ap (is_kept (length (view a).cells)) (sym e) ∙ h)
kept_node a k i (Some c) e h =
    sees a k c (record { is = ap (tree_at a) (sym e) ∙ h (tree_at a) (trees_hold a) })
