-- Turns of a look-up, by their numbers.
use Rattle.std.proofs.Common.{◌≡◌, refl, ap, ◌∙◌, sym, ℕ, ◌≤◌, ◌<◌, ◌+◌, ◌-◌, ◌*◌, ◌/◌, ◌%◌, Bool, true, false, List}
use Rattle.std.proofs.Common.{nat_lt, arith, Option, Some, None, IfSome, option_map}
use Rattle.demangle_core.specs.Core.{Core, end, node, place, number, flag, chosen, ref, mark, N, U}
use Rattle.demangle_core.specs.Table as tables
use Rattle.demangle_core.specs.Table.{Table}
use Rattle.demangle_core.specs.Lookups.{Next, answer, nothing, at, answer_of, refers, settled}
use Rattle.demangle_core.proofs.Resolved.{resolved}
use Rattle.demangle_grammar.specs.Tree.{reference}
use Rattle.demangle_cells.specs.Cells.{plain_tree}
use Rattle.demangle_cells.specs.Fixed.{fixed, first_cell, first_reference}
use Rattle.demangle_cells.specs.Fixed as kept
use Rattle.demangle_cells.specs.Tags.{tag_of}
use Rattle.demangle_cells.specs.View.{view}
use Rattle.demangle_cells.specs.declared.arena.Arena.{Arena}
use Rattle.demangle_cells.specs.declared.plain.Plain.{Plain}
use Rattle.demangle_cells.specs.declared.plain.Plain.TheVariants as of_plain
use Rattle.demangle_cells.specs.declared.tag.Tag.{Tag}
use Rattle.demangle_printing.specs.World.{nth}
use Rattle.demangle_cell_trees.specs.ArenaTrees.{IsCell, first_inside, inside, node_at, tree_at}
use Rattle.demangle_cell_trees.specs.Codes.{IsPart, none}
use Rattle.demangle_cell_trees.specs.Own.{has_plain, is_reference, is_single, parts_in, row_of, row_tag}
use Rattle.demangle_cell_trees.specs.Roles.{role_in, tag_in}
use Rattle.demangle_cell_trees.specs.Steps.{IsWay, Offers, Turns, choice_of, first_numbered, first_other}
use Rattle.demangle_cell_trees.specs.Steps.{index_tree, is_step, or_nothing, other_part, part_says}
use Rattle.demangle_cell_trees.specs.Steps.{component_in, found_in, past_steps, role_says, size, step_in, step_of}
use Rattle.demangle_cell_trees.specs.declared.roles.Role.{Role}
use Rattle.demangle_cell_trees.specs.declared.roles.Role.TheVariants as of_role
use Rattle.demangle_cell_trees.specs.declared.roles.Sought.{Sought}
use Rattle.demangle_cell_trees.specs.declared.roles.Sought.TheVariants as of_sought
use Rattle.demangle_cell_trees.proofs.Hold.{each, of_fixed}
use Rattle.demangle_cell_trees.proofs.Looks.{nth_is, numbered_tree, other_tree, plain_cell, plain_is, plain_node}
use Rattle.demangle_cell_trees.proofs.Looks.{single}
use Rattle.demangle_cell_trees.proofs.Steps.{part_is, choice_is, itself_is, nothing_is, each_smaller}

-- ---- what is inside of a tree of an arena
inside_same : (x : Core) → has_plain x ≡ true → inside x ≡ x
inside_same (node t (ref w k m) n) h = cc
inside_same (node t end n) h = refl
inside_same (node t (node u c m) n) h = refl
inside_same (node t (place i j m) n) h = refl
inside_same (node t (number v m) n) h = refl
inside_same (node t (flag b m) n) h = refl
inside_same (node t (chosen u k m) n) h = refl
inside_same (node t (mark i m) n) h = refl
inside_same _ h = refl

abbrev StepsInside : Core → Type 0
StepsInside x = (s : Sought) → step_in s (inside x) ≡ step_in s x

numbered_inside : (k : ℕ) → StepsInside (reference N k)
numbered_inside k of_sought.LeafName = refl
numbered_inside k of_sought.PrefixArguments = refl
numbered_inside k of_sought.TypeArguments = refl
numbered_inside k of_sought.Special = refl

others_inside : (k : ℕ) → StepsInside (reference U k)
others_inside k of_sought.LeafName = refl
others_inside k of_sought.PrefixArguments = refl
others_inside k of_sought.TypeArguments = refl
others_inside k of_sought.Special = refl

plain_inside : (x : Core) → has_plain x ≡ true → StepsInside x
plain_inside x h s = ap (step_in s) (inside_same x h)

cell_plain : (F : ℕ → Core) → ((k : ℕ) → is_single (F k) ≡ true) → (l : List ℕ) (c : Plain)
    → is_reference c ≡ false → StepsInside (plain_tree F l c)
cell_plain F g l c r = plain_inside (plain_tree F l c) (plain_cell F g l c r)

cell_inside : (F : ℕ → Core) → ((k : ℕ) → is_single (F k) ≡ true) → (l : List ℕ) (c : Plain)
    → StepsInside (plain_tree F l c)
cell_inside F g l (of_plain.Reference k) = numbered_inside k
cell_inside F g l (of_plain.Other k) = others_inside k
cell_inside F g l (of_plain.Empty t) = cell_plain F g l (of_plain.Empty t) refl
cell_inside F g l (of_plain.One t i) = cell_plain F g l (of_plain.One t i) refl
cell_inside F g l (of_plain.Two t i j) = cell_plain F g l (of_plain.Two t i j) refl
cell_inside F g l (of_plain.Three t i j k) = cell_plain F g l (of_plain.Three t i j k) refl
cell_inside F g l (of_plain.Many t i j) = cell_plain F g l (of_plain.Many t i j) refl
cell_inside F g l (of_plain.Arguments i m) = cell_plain F g l (of_plain.Arguments i m) refl
cell_inside F g l (of_plain.Place i j) = λ s. refl
cell_inside F g l (of_plain.Number v) = λ s. refl
cell_inside F g l (of_plain.Counted n) = λ s. refl
cell_inside F g l (of_plain.Word t w) = λ s. refl
cell_inside F g l (of_plain.Flag b) = λ s. refl

fixed_inside : (k : ℕ) → StepsInside (fixed k)
fixed_inside =
    of_fixed StepsInside (λ t w s. refl) (λ b s. refl) (λ s. refl)
    (λ t c h. plain_inside (node t c end) (plain_node t c end h)) numbered_inside others_inside

tree_inside : (a : Arena) (k : ℕ) → StepsInside (tree_at a k)
tree_inside a =
    each StepsInside a fixed_inside (λ s. refl) (cell_inside (tree_at a) (single a) (view a).list)

pub node_steps : (s : Sought) (a : Arena) (k : ℕ) → step_in s (node_at a k) ≡ step_in s (tree_at a (k % first_inside))
node_steps s a k = by (nat_lt k first_inside) refl
  where
    by : (b : Bool) → nat_lt k first_inside ≡ b → step_in s (node_at a k) ≡ step_in s (tree_at a (k % first_inside))
    by true h =
        let e : k % first_inside ≡ k = grind (arith, h) in
        rw (h, e) refl
    by false h = rw h (tree_inside a (k % first_inside) s)

-- ---- references
reference_steps : (s : Sought) (k : ℕ) → at N k ≡ step_in s (reference N k)
reference_steps of_sought.LeafName k = refl
reference_steps of_sought.PrefixArguments k = refl
reference_steps of_sought.TypeArguments k = refl
reference_steps of_sought.Special k = refl

other_steps : (s : Sought) (k : ℕ) → at U k ≡ step_in s (reference U k)
other_steps of_sought.LeafName k = refl
other_steps of_sought.PrefixArguments k = refl
other_steps of_sought.TypeArguments k = refl
other_steps of_sought.Special k = refl

pub numbered_step : (a : Arena) (k : ℕ) → k < first_inside → step_of a (first_numbered + k) ≡ at N k
numbered_step a k h =
    let i : nat_lt (first_numbered + k) first_numbered ≡ false = grind arith in
    let j : nat_lt (first_numbered + k) first_other ≡ true = grind (arith, h) in
    let d : (first_numbered + k) - first_numbered ≡ k = omega arith in
    rw (i, j, d) refl

pub other_step : (a : Arena) (k : ℕ) → k < first_inside → step_of a (first_other + k) ≡ at U k
other_step a k h =
    let i : nat_lt (first_other + k) first_numbered ≡ false = grind arith in
    let j : nat_lt (first_other + k) first_other ≡ false = grind arith in
    let l : nat_lt (first_other + k) past_steps ≡ true = grind (arith, h) in
    let d : (first_other + k) - first_other ≡ k = omega arith in
    rw (i, j, l, d) refl

pub numbered_reference : (s : Sought) (a : Arena) (k : ℕ) → first_reference ≤ k → k < kept.first_other
    → step_of a (first_numbered + (k - first_reference)) ≡ step_in s (tree_at a k)
numbered_reference s a k h l =
    numbered_step a (k - first_reference) (omega (arith, l))
    ∙ (reference_steps s (k - first_reference) ∙ ap (step_in s) (sym (numbered_tree a k h l)))

pub other_reference : (s : Sought) (a : Arena) (k : ℕ) → kept.first_other ≤ k → k < first_inside
    → step_of a (first_other + (k - kept.first_other)) ≡ step_in s (tree_at a k)
other_reference s a k h l =
    other_step a (k - kept.first_other) (omega (arith, l))
    ∙ (other_steps s (k - kept.first_other) ∙ ap (step_in s) (sym (other_tree a k h)))

-- ---- cells that are no nodes whose parts have indexes
pub end_steps : (s : Sought) (F : ℕ → Core) (l : List ℕ) (c : Plain) → row_tag c ≡ None
    → ((t w : ℕ) → c ≡ of_plain.Word t w → ⊥) → ((k : ℕ) → c ≡ of_plain.Reference k → ⊥)
    → ((k : ℕ) → c ≡ of_plain.Other k → ⊥) → nothing ≡ step_in s (plain_tree F l c)
end_steps s F l (of_plain.Place i j) h w r o = refl
end_steps s F l (of_plain.Number v) h w r o = refl
end_steps s F l (of_plain.Counted n) h w r o = refl
end_steps s F l (of_plain.Flag b) h w r o = refl
end_steps s F l (of_plain.Word t k) h w r o = absurd (w t k refl)
end_steps s F l (of_plain.Reference k) h w r o = absurd (r k refl)
end_steps s F l (of_plain.Other k) h w r o = absurd (o k refl)
end_steps s F l _ h w r o = cc

pub numbered_cell : (s : Sought) (a : Arena) (k i : ℕ) → i < first_inside → IsCell a k (of_plain.Reference i)
    → step_of a (first_numbered + i) ≡ step_in s (tree_at a k)
numbered_cell s a k i h e = numbered_step a i h ∙ (reference_steps s i ∙ ap (step_in s) (sym e.is))

pub other_cell : (s : Sought) (a : Arena) (k i : ℕ) → i < first_inside → IsCell a k (of_plain.Other i)
    → step_of a (first_other + i) ≡ step_in s (tree_at a k)
other_cell s a k i h e = other_step a i h ∙ (other_steps s i ∙ ap (step_in s) (sym e.is))

-- ---- turns by their numbers
module _ (s : Sought) (a : Arena) (x : Core) where
  pub step_turns : (n : ℕ) → is_step n ≡ true → step_of a n ≡ step_in s x → Turns s a x n
  step_turns n h e = record {
    done = λ i. e;
    into = λ i. absurd (stays n h 4 (omega arith) (omega arith) i);
    plain = λ i j. absurd (stays n h (n / first_inside) (omega (arith, i)) j refl);
    choice = λ i j. absurd (stays n h (n / first_inside) (omega (arith, i)) j refl);
  }
    where
      stays : (n : ℕ) → is_step n ≡ true → (k : ℕ) → 4 ≤ k → k ≤ 6 → n / first_inside ≡ k → ⊥
      stays n h k l m e = grind (arith, h, l, m, e)

  pub none_turns : nothing ≡ step_in s x → Turns s a x none
  none_turns e = step_turns none refl e

  pub into_turns : (o : Option ℕ) (n : ℕ) → IsPart o n → n < first_inside
      → step_in s x ≡ part_says s (option_map (tree_at a) o)
      → IfSome (option_map (tree_at a) o) (λ y. size y < size x) → Turns s a x (17179869184 + n)
  into_turns None n p l e h = absurd (omega (arith, p.is, l))
  into_turns (Some k) n p l e h =
      let q : (17179869184 + n) / first_inside ≡ 4 = omega (arith, l) in
      let r : (17179869184 + n) % first_inside ≡ k = omega (arith, l, p.is) in
      record {
        done = λ i. absurd (grind (arith, i, q));
        into = λ i. record {
          is = e ∙ ap (λ m. step_in s (tree_at a m)) (sym r);
          smaller = rw r h;
        };
        plain = λ i j. absurd (omega (arith, i, q));
        choice = λ i j. absurd (omega (arith, i, q));
      }

  pub into_none : (o : Option ℕ) (n : ℕ) → IsPart o n → first_inside ≤ n
      → step_in s x ≡ part_says s (option_map (tree_at a) o) → Turns s a x none
  into_none None n p l e = none_turns (sym e)
  into_none (Some k) n p l e = let b : k < first_inside = p.small in absurd (omega (arith, p.is, l, b))

  pub either_turns : (w : ℕ) → IsWay w → (o : Option ℕ) (n : ℕ) → IsPart o n → n < first_inside
      → has_plain x ≡ true → Offers s x (option_map (tree_at a) o) (nth (other_part w) (parts_in x))
      → Turns s a x (w + n)
  either_turns w y None n p l g h = absurd (omega (arith, p.is, l))
  either_turns w y (Some k) n p l g h =
      let v : w ≡ (w / first_inside) * first_inside = y.whole in
      let q : (w + n) / first_inside ≡ w / first_inside = omega (arith, l, v) in
      let r : (w + n) % first_inside ≡ k = omega (arith, l, v, p.is) in
      let b : 5 ≤ w / first_inside = y.low in
      let t : w / first_inside ≤ 6 = y.high in
      record {
        done = λ i. absurd (grind (arith, i, q, b, t));
        into = λ i. absurd (omega (arith, i, q, b));
        plain = λ i j. g;
        choice = λ i j. rw (q, r) (record { is = h.is; smaller = h.smaller; other = h.other });
      }

  pub either_none : (o : Option ℕ) (n : ℕ) (z : Option Core) → IsPart o n → first_inside ≤ n
      → Offers s x (option_map (tree_at a) o) z → Turns s a x none
  either_none None n z p l h = none_turns (sym h.is)
  either_none (Some k) n z p l h = let b : k < first_inside = p.small in absurd (omega (arith, p.is, l, b))

pub answer_turns : (s : Sought) (a : Arena) (k : ℕ) → k < first_inside → answer (tree_at a k) ≡ step_in s (tree_at a k)
    → Turns s a (tree_at a k) k
answer_turns s a k b e =
    let h : is_step k ≡ true = grind (arith, b) in
    let i : nat_lt k first_numbered ≡ true = grind (arith, b) in
    let f : step_of a k ≡ answer (tree_at a k) = rw i refl in
    step_turns s a (tree_at a k) k h (f ∙ e)

-- ---- a node whose parts have indexes
row_tag_in : (F : ℕ → Core) (l : List ℕ) (c : Plain) (t : Tag) → row_tag c ≡ Some t
    → tag_in (plain_tree F l c) ≡ Some (tag_of t)
row_tag_in F l (of_plain.Empty u) t h = cc
row_tag_in F l (of_plain.One u i) t h = cc
row_tag_in F l (of_plain.Two u i j) t h = cc
row_tag_in F l (of_plain.Three u i j k) t h = cc
row_tag_in F l (of_plain.Many u i j) t h = cc
row_tag_in F l (of_plain.Arguments i m) t h = ap (option_map tag_of) h
row_tag_in F l _ t h = cc

row_no_reference : (c : Plain) (t : Tag) → row_tag c ≡ Some t → is_reference c ≡ false
row_no_reference (of_plain.Reference k) t h = cc
row_no_reference (of_plain.Other k) t h = cc
row_no_reference _ t h = refl

module _ (s : Sought) (a : Arena) (k : ℕ) (c : Plain) (t : Tag) (e : IsCell a k c) (h : row_tag c ≡ Some t) where
  pub tag_is : tag_in (tree_at a k) ≡ Some (tag_of t)
  tag_is = ap tag_in e.is ∙ row_tag_in (tree_at a) (view a).list c t h

  pub own_part : (n : ℕ) → option_map (tree_at a) (nth n (row_of (view a).list c)) ≡ nth n (parts_in (tree_at a k))
  own_part n = sym (ap (λ x. nth n (parts_in x)) e.is ∙ nth_is a c (row_no_reference c t h) n)

  pub own_plain : has_plain (tree_at a k) ≡ true
  own_plain = ap has_plain e.is ∙ plain_is a c (row_no_reference c t h)

  pub node_itself : role_in s t ≡ of_role.Itself → answer (tree_at a k) ≡ step_in s (tree_at a k)
  node_itself r = itself_is s t (tree_at a k) (single a k) tag_is r

  pub node_nothing : role_in s t ≡ of_role.Nothing → nothing ≡ step_in s (tree_at a k)
  node_nothing r = nothing_is s t (tree_at a k) (single a k) tag_is r

  pub node_part : (r : Role) (n : ℕ) → role_in s t ≡ r
      → ((steps : List (Next Core)) → role_says r (tree_at a k) steps ≡ or_nothing (nth n steps))
      → step_in s (tree_at a k) ≡ part_says s (option_map (tree_at a) (nth n (row_of (view a).list c)))
  node_part r n i says =
      part_is s t (tree_at a k) (single a k) tag_is r n (option_map (tree_at a) (nth n (row_of (view a).list c))) i
      says (own_part n)

  pub node_smaller : (n : ℕ) → IfSome (option_map (tree_at a) (nth n (row_of (view a).list c)))
      (λ y. size y < size (tree_at a k))
  node_smaller n =
      each_smaller n (tree_at a k) (option_map (tree_at a) (nth n (row_of (view a).list c))) (own_part n)

  pub node_choice : (r : Role) (n m : ℕ) → role_in s t ≡ r
      → ((steps : List (Next Core))
      → role_says r (tree_at a k) steps ≡ choice_of (nth n steps) (or_nothing (nth m steps)))
      → Offers s (tree_at a k) (option_map (tree_at a) (nth n (row_of (view a).list c)))
      (nth m (parts_in (tree_at a k)))
  node_choice r n m i says =
      choice_is s t (tree_at a k) (single a k) tag_is r n m
      (option_map (tree_at a) (nth n (row_of (view a).list c))) (nth m (parts_in (tree_at a k))) i says (own_part n)
      refl

-- ---- parts by their indexes
pub part_tree : (a : Arena) (o : Option ℕ) (n : ℕ) → IsPart o n → index_tree a n ≡ option_map (tree_at a) o
part_tree a None n p = let i : nat_lt n first_inside ≡ false = grind (arith, p.is) in rw i refl
part_tree a (Some k) n p =
    let e : n ≡ k = p.is in
    let b : k < first_inside = p.small in
    let i : nat_lt n first_inside ≡ true = grind (arith, e, b) in
    rw i (ap (λ m. Some (tree_at a m)) e)

plain_no_reference : (F : ℕ → Core) (l : List ℕ) (c : Plain) → has_plain (plain_tree F l c) ≡ true
    → is_reference c ≡ false
plain_no_reference F l (of_plain.Reference k) h = cc
plain_no_reference F l (of_plain.Other k) h = cc
plain_no_reference F l _ h = refl

pub index_part : (a : Arena) (k : ℕ) (c : Plain) (n m : ℕ) → IsCell a k c → IsPart (nth n (row_of (view a).list c)) m
    → has_plain (tree_at a k) ≡ true → index_tree a m ≡ nth n (parts_in (tree_at a k))
index_part a k c n m e p h =
    part_tree a (nth n (row_of (view a).list c)) m p
    ∙ sym (ap (λ x. nth n (parts_in x)) e.is
    ∙ nth_is a c (plain_no_reference (tree_at a) (view a).list c (ap has_plain (sym e.is) ∙ h)) n)

-- ---- steps by their numbers
pub any_step : (a b : Arena) (n : ℕ) → first_numbered ≤ n → step_of a n ≡ step_of b n
any_step a b n h = let i : nat_lt n first_numbered ≡ false = grind (arith, h) in rw i refl

pub to_numbered : (a : Arena) (n : ℕ) → n / first_inside ≡ 1 → step_of a n ≡ at N (n % first_inside)
to_numbered a n h =
    let e : n ≡ first_numbered + n % first_inside = omega (arith, h) in
    ap (step_of a) e ∙ numbered_step a (n % first_inside) (omega arith)

pub to_other : (a : Arena) (n : ℕ) → n / first_inside ≡ 2 → step_of a n ≡ at U (n % first_inside)
to_other a n h =
    let e : n ≡ first_other + n % first_inside = omega (arith, h) in
    ap (step_of a) e ∙ other_step a (n % first_inside) (omega arith)

-- what is found in a tree that has no component on the way
pub found_here : (s : Sought) (a : Arena) (t : Table) (n : ℕ) (x : Core) → n < first_numbered
    → step_of a n ≡ step_in s x → answer_of (step_of a n) ≡ found_in s t x
found_here s a t n x h e =
    let i : nat_lt n first_numbered ≡ true = grind (arith, h) in
    let r : refers (step_of a n) ≡ false = rw i refl in
    sym (resolved (component_in s) t (tables.size N t + tables.size U t) (step_of a n) r)
    ∙ ap (settled (component_in s) t) e
