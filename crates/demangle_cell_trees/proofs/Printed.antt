-- What is printed for a tree, by the tag of its node.
use Rattle.std.proofs.Common.{◌≡◌, refl, ap, ◌∙◌, sym, ℕ, ◌<◌, Bool, true, false, List, [], ◌∷◌, Option, Some, None}
use Rattle.std.proofs.Common.{map, nat_eq}
use Rattle.demangle_core.specs.Core.{Core, Tag, code}
use Rattle.demangle_core.specs.Table.{Table}
use Rattle.demangle_cells.specs.Tags.{tag_of}
use Rattle.demangle_cells.specs.View.{view}
use Rattle.demangle_cells.specs.declared.arena.Arena.{Arena}
use Rattle.demangle_cells.specs.declared.plain.Plain.{Plain}
use Rattle.demangle_cells.specs.declared.plain.Plain.TheVariants as of_plain
use Rattle.demangle_cells.specs.declared.tag.Tag as kept
use Rattle.demangle_printing.specs.World.{World}
use Rattle.demangle_printing.specs.World as seen
use Rattle.demangle_printing.specs.Rules.{as_handle, as_optional, handle_seen, itself, its_part, of_handle, of_holding}
use Rattle.demangle_printing.specs.Rules.{of_optional, of_part, optional_seen}
use Rattle.demangle_printing.specs.Trees.{look_component, look_in, with_table}
use Rattle.demangle_lines.specs.Shapes.{shape_in}
use Rattle.demangle_lines.specs.declared.tree.Shape.TheVariants as of_shape
use Rattle.demangle_cell_trees.specs.ArenaTrees.{IsCell, Sees, first_inside, node_at, tree_at}
use Rattle.demangle_cell_trees.specs.Held.{held_code, is_holder, is_plain}
use Rattle.demangle_cell_trees.specs.declared.held.Holding.TheVariants as of_kept
use Rattle.demangle_cell_trees.specs.Own.{row_of, row_tag, tag_number}
use Rattle.demangle_cell_trees.proofs.Looks.{alone, index_node, row_look, single}

-- ---- by the number of the tag
plain_optional : (t : Tag) → is_plain (code t) ≡ true → as_optional t ≡ itself
plain_optional Tag.Present h = cc
plain_optional Tag.Absent h = cc
plain_optional _ h = refl

plain_handle : (t : Tag) → is_plain (code t) ≡ true → as_handle t ≡ itself
plain_handle Tag.TypeHandleBuiltin h = cc
plain_handle Tag.TypeHandleQualifiedBuiltin h = cc
plain_handle Tag.WellKnown h = cc
plain_handle Tag.SubstitutableUnscopedTemplateName h = cc
plain_handle Tag.SubstitutableTypeNode h = cc
plain_handle Tag.SubstitutableTemplateTemplateParam h = cc
plain_handle Tag.SubstitutableUnresolvedType h = cc
plain_handle Tag.SubstitutablePrefix h = cc
plain_handle Tag.SubstitutableExpression h = cc
plain_handle _ h = refl

holder_optional : (t : Tag) → is_holder (code t) ≡ true → as_optional t ≡ itself
holder_optional Tag.Present h = cc
holder_optional Tag.Absent h = cc
holder_optional _ h = refl

holder_handle : (t : Tag) → is_holder (code t) ≡ true → as_handle t ≡ its_part
holder_handle Tag.TypeHandleBuiltin h = refl
holder_handle Tag.TypeHandleQualifiedBuiltin h = refl
holder_handle Tag.WellKnown h = refl
holder_handle Tag.SubstitutableUnscopedTemplateName h = refl
holder_handle Tag.SubstitutableTypeNode h = refl
holder_handle Tag.SubstitutableTemplateTemplateParam h = refl
holder_handle Tag.SubstitutableUnresolvedType h = refl
holder_handle Tag.SubstitutablePrefix h = refl
holder_handle Tag.SubstitutableExpression h = refl
holder_handle _ h = cc

present_optional : (t : Tag) → nat_eq (code t) 0 ≡ true → as_optional t ≡ its_part
present_optional Tag.Present h = refl
present_optional _ h = cc

-- ---- of a node
module _ (w : World Core) (x : Core) (t : Tag) (xs : List Core) (e : w.look x ≡ seen.node t xs) where
  optional_is : of_optional w (Some x) ≡ of_holding (as_optional t) x xs
  optional_is = ap (optional_seen w x) e

  handle_is : of_handle w (Some x) ≡ of_holding (as_handle t) x xs
  handle_is = ap (handle_seen w x) e

  handled : is_plain (code t) ≡ true → of_handle w (Some x) ≡ Some x
  handled h = handle_is ∙ ap (λ z. of_holding z x xs) (plain_handle t h)

  printed_plain : is_plain (code t) ≡ true → of_part w (Some x) ≡ Some x
  printed_plain h =
      ap (of_handle w) (optional_is ∙ ap (λ z. of_holding z x xs) (plain_optional t h)) ∙ handled h

  printed_holder : is_holder (code t) ≡ true → of_part w (Some x) ≡ seen.nth 0 xs
  printed_holder h =
      ap (of_handle w) (optional_is ∙ ap (λ z. of_holding z x xs) (holder_optional t h))
      ∙ (handle_is ∙ ap (λ z. of_holding z x xs) (holder_handle t h))

  handled_holder : is_holder (code t) ≡ true → of_handle w (Some x) ≡ seen.nth 0 xs
  handled_holder h = handle_is ∙ ap (λ z. of_holding z x xs) (holder_handle t h)

  printed_present : nat_eq (code t) 0 ≡ true → of_part w (Some x) ≡ of_handle w (seen.nth 0 xs)
  printed_present h = ap (of_handle w) (optional_is ∙ ap (λ z. of_holding z x xs) (present_optional t h))

-- ---- of a node that has a cell
tagged : (o : Option kept.Tag) → is_plain (tag_number o) ≡ true → (P : Type 0)
    → ((t : kept.Tag) → o ≡ Some t → is_plain (code (tag_of t)) ≡ true → P) → P
tagged None h P f = absurd (cc)
tagged (Some t) h P f = f t refl h

pub is_itself : (a : Arena) (k : ℕ) (c : Plain) → Sees a k c → is_plain (tag_number (row_tag c)) ≡ true
    → (table : Table) (input : List ℕ)
    → Some (node_at a k) ≡ of_part (with_table table input) (Some (node_at a k))
is_itself a k c e h table input =
    tagged (row_tag c) h (Some (node_at a k) ≡ of_part (with_table table input) (Some (node_at a k)))
    (λ t p q. sym (printed_plain (with_table table input) (node_at a k) (tag_of t)
    (map (tree_at a) (row_of (view a).list c)) (e.look table input ∙ row_look a c t p table input) q))

pub is_handled : (a : Arena) (k : ℕ) (c : Plain) → k < first_inside → IsCell a k c
    → is_plain (tag_number (row_tag c)) ≡ true → (table : Table) (input : List ℕ)
    → Some (node_at a k) ≡ of_handle (with_table table input) (Some (tree_at a k))
is_handled a k c b e h table input =
    tagged (row_tag c) h (Some (node_at a k) ≡ of_handle (with_table table input) (Some (tree_at a k)))
    (λ t p q. ap Some (index_node a k b)
    ∙ sym (handled (with_table table input) (tree_at a k) (tag_of t) (map (tree_at a) (row_of (view a).list c))
    (ap (look_in table input) e.is ∙ row_look a c t p table input) q))

module _ (a : Arena) (k : ℕ) (t : kept.Tag) (i : ℕ) (e : Sees a k (of_plain.One t i)) (table : Table)
    (input : List ℕ) where
  look_one : look_in table input (node_at a k) ≡ seen.node (tag_of t) (tree_at a i ∷ [])
  look_one = e.look table input ∙ row_look a (of_plain.One t i) t refl table input

  pub is_held : i < first_inside → is_holder (code (tag_of t)) ≡ true
      → Some (node_at a i) ≡ of_part (with_table table input) (Some (node_at a k))
  is_held b h =
      ap Some (index_node a i b)
      ∙ sym (printed_holder (with_table table input) (node_at a k) (tag_of t) (tree_at a i ∷ []) look_one h)

  pub is_optional : nat_eq (code (tag_of t)) 0 ≡ true
      → of_handle (with_table table input) (Some (tree_at a i))
      ≡ of_part (with_table table input) (Some (node_at a k))
  is_optional h =
      sym (printed_present (with_table table input) (node_at a k) (tag_of t) (tree_at a i ∷ []) look_one h)

-- what a component holds
module _ (a : Arena) (k : ℕ) (t : kept.Tag) (i : ℕ) (e : IsCell a k (of_plain.One t i)) (b : i < first_inside)
    (h : is_holder (code (tag_of t)) ≡ true) (table : Table) (input : List ℕ) (x : Core)
    (l : look_in table input x ≡ look_component (Some (tree_at a k))) where
  look_holder : look_in table input x ≡ seen.node (tag_of t) (tree_at a i ∷ [])
  look_holder = l ∙ (ap (λ z. look_component (Some z)) e.is ∙ ap (seen.node (tag_of t)) (alone (tree_at a i) (single a i)))

  pub component_is_held : Some (node_at a i) ≡ of_part (with_table table input) (Some x)
  component_is_held =
      ap Some (index_node a i b)
      ∙ sym (printed_holder (with_table table input) x (tag_of t) (tree_at a i ∷ []) look_holder h)

  pub component_is_handled : Some (node_at a i) ≡ of_handle (with_table table input) (Some x)
  component_is_handled =
      ap Some (index_node a i b)
      ∙ sym (handled_holder (with_table table input) x (tag_of t) (tree_at a i ∷ []) look_holder h)

-- an optional part that refers to a component
pub refers_to_held : (a s : Arena) (k : ℕ) (t : kept.Tag) (i r : ℕ) (o : Option Core) (table : Table) (input : List ℕ)
    → Sees a k (of_plain.One t i) → nat_eq (code (tag_of t)) 0 ≡ true → i < first_inside
    → look_in table input (node_at a i) ≡ look_component o
    → ((x : Core) → look_in table input x ≡ look_component o
    → Some (node_at s r) ≡ of_handle (with_table table input) (Some x))
    → Some (node_at s r) ≡ of_part (with_table table input) (Some (node_at a k))
refers_to_held a s k t i r o table input e h b l f =
    f (tree_at a i) (ap (look_in table input) (sym (index_node a i b)) ∙ l) ∙ is_optional a k t i e table input h

-- ---- an optional part
zero_code : (n : ℕ) → held_code n ≡ of_kept.Optional → nat_eq n 0 ≡ true
zero_code n h = by (nat_eq n 0) (nat_eq n 1) (is_holder n) refl refl refl
  where
    by : (a b c : Bool) → nat_eq n 0 ≡ a → nat_eq n 1 ≡ b → is_holder n ≡ c → nat_eq n 0 ≡ true
    by true b c p q r = p
    by false true c p q r = let g = rw (p, q) at h in cc
    by false false true p q r = let g = rw (p, q, r) at h in cc
    by false false false p q r = let g = rw (p, q, r) at h in cc

pub optional_seen_as : (w : World Core) (x : Core) (n : ℕ) (s : seen.Seen Core) → w.look x ≡ s
    → shape_in s ≡ of_shape.Node n → held_code n ≡ of_kept.Optional
    → of_part w (Some x) ≡ of_handle w (seen.nth 0 (seen.parts_seen (w.look x)))
optional_seen_as w x n (seen.node t xs) e h o =
    let c : code t ≡ n = cc in
    printed_present w x t xs e (zero_code (code t) (ap held_code c ∙ o))
    ∙ ap (λ z. of_handle w (seen.nth 0 (seen.parts_seen z))) (sym e)
optional_seen_as w x n seen.nothing e h o = cc
optional_seen_as w x n (seen.bytes bs) e h o = cc
optional_seen_as w x n (seen.number v) e h o = cc
optional_seen_as w x n (seen.flag b) e h o = cc
optional_seen_as w x n (seen.word u k) e h o = cc
