-- What a look-up finds in a tree is what it finds in its parts.
use Rattle.std.proofs.Common.{◌≡◌, refl, ap, ◌∙◌, sym, ℕ, suc, zero, ◌≤◌, ◌<◌, Bool, true, false, List, [], ◌∷◌}
use Rattle.std.proofs.Common.{map, arith, Option, Some, None, IfSome, option_map}
use Rattle.demangle_core.specs.Core as core
use Rattle.demangle_core.specs.Core.{Core, end, node, place, number, flag, chosen, ref, mark}
use Rattle.demangle_core.specs.Lookups.{Next, answer, nothing, at, first_step, steps_of}
use Rattle.demangle_core.specs.Lookups.{args_component, args_step, as_prefix, as_type}
use Rattle.demangle_cells.specs.Tags.{tag_of}
use Rattle.demangle_cells.specs.declared.tag.Tag.{Tag}
use Rattle.demangle_cells.specs.declared.arena.Arena.{Arena}
use Rattle.demangle_printing.specs.World.{nth}
use Rattle.demangle_printing.specs.Trees.{trees_of}
use Rattle.demangle_cell_trees.specs.ArenaTrees.{tree_at}
use Rattle.demangle_cell_trees.specs.Own.{is_single, parts_in}
use Rattle.demangle_cell_trees.specs.Roles.{role_in, tag_in}
use Rattle.demangle_cell_trees.specs.Steps.{node_of, word_of, step_in, component_in, or_nothing, choice_of, role_says}
use Rattle.demangle_cell_trees.specs.Steps.{part_says, holds_it, if_holds, arguments_in, size}
use Rattle.demangle_cell_trees.specs.Steps.{Offers}
use Rattle.demangle_cell_trees.specs.declared.roles.Role.{Role}
use Rattle.demangle_cell_trees.specs.declared.roles.Role.TheVariants as of_role
use Rattle.demangle_cell_trees.specs.declared.roles.Sought.{Sought}
use Rattle.demangle_cell_trees.specs.declared.roles.Sought.TheVariants as of_sought
use Rattle.demangle_cell_trees.proofs.Looks.{ended, single, nth_map}
use Rattle.demangle_cell_trees.proofs.Says.{says}

-- ---- the steps of a row are those of its trees
steps_map : (of : core.Tag → Core → List (Next Core) → Next Core) (known : ℕ → ℕ → Core → Next Core) (c : Core)
    → steps_of of known c ≡ map (λ x. first_step (steps_of of known x)) (trees_of c)
steps_map of known end = refl
steps_map of known (node t c n) =
    ap (λ z. of t (node t c end) (steps_of of known c) ∷ z) (steps_map of known n)
steps_map of known (place i j n) = ap (λ z. nothing ∷ z) (steps_map of known n)
steps_map of known (number v n) = ap (λ z. nothing ∷ z) (steps_map of known n)
steps_map of known (flag b n) = ap (λ z. nothing ∷ z) (steps_map of known n)
steps_map of known (chosen t k n) = ap (λ z. known t k (chosen t k end) ∷ z) (steps_map of known n)
steps_map of known (ref w k n) = ap (λ z. at w k ∷ z) (steps_map of known n)
steps_map of known (mark i n) = steps_map of known n

some_is : {A : Type 0} (a b : A) → Some a ≡ Some b → a ≡ b
some_is a b h = cc

node_step : (s : Sought) (t : Tag) (c : Core) → step_in s (node (tag_of t) c end)
    ≡ role_says (role_in s t) (node (tag_of t) c end) (map (step_in s) (trees_of c))
node_step s t c =
    says s t (node (tag_of t) c end) (steps_of (node_of s) (word_of s) c)
    ∙ ap (role_says (role_in s t) (node (tag_of t) c end)) (steps_map (node_of s) (word_of s) c)

pub node_says : (s : Sought) (t : Tag) (x : Core) → is_single x ≡ true → tag_in x ≡ Some (tag_of t)
    → step_in s x ≡ role_says (role_in s t) x (map (step_in s) (parts_in x))
node_says s t end g h = cc
node_says s t (node u c n) g h =
    let e : n ≡ end = ended n g in
    let f : u ≡ tag_of t = some_is u (tag_of t) h in
    rw (e, f) (node_step s t c)
node_says s t (place i j n) g h = cc
node_says s t (number v n) g h = cc
node_says s t (flag b n) g h = cc
node_says s t (chosen u k n) g h = cc
node_says s t (ref w k n) g h = cc
node_says s t (mark i n) g h = cc

-- ---- sizes
nth_size : (n : ℕ) (c y : Core) → nth n (trees_of c) ≡ Some y → size y ≤ size c
nth_size n end y h = cc
nth_size zero (node t c m) y h =
    let f : size (node t c end) ≡ size y = ap size (some_is (node t c end) y h) in omega (arith, f)
nth_size zero (place i j m) y h =
    let f : size (place i j end) ≡ size y = ap size (some_is (place i j end) y h) in omega (arith, f)
nth_size zero (number v m) y h =
    let f : size (number v end) ≡ size y = ap size (some_is (number v end) y h) in omega (arith, f)
nth_size zero (flag b m) y h =
    let f : size (flag b end) ≡ size y = ap size (some_is (flag b end) y h) in omega (arith, f)
nth_size zero (chosen t k m) y h =
    let f : size (chosen t k end) ≡ size y = ap size (some_is (chosen t k end) y h) in omega (arith, f)
nth_size zero (ref w k m) y h =
    let f : size (ref w k end) ≡ size y = ap size (some_is (ref w k end) y h) in omega (arith, f)
nth_size zero (mark i m) y h = let r : size y ≤ size m = nth_size zero m y h in omega (arith, r)
nth_size (suc n) (node t c m) y h = let r : size y ≤ size m = nth_size n m y h in omega (arith, r)
nth_size (suc n) (place i j m) y h = let r : size y ≤ size m = nth_size n m y h in omega (arith, r)
nth_size (suc n) (number v m) y h = let r : size y ≤ size m = nth_size n m y h in omega (arith, r)
nth_size (suc n) (flag b m) y h = let r : size y ≤ size m = nth_size n m y h in omega (arith, r)
nth_size (suc n) (chosen t k m) y h = let r : size y ≤ size m = nth_size n m y h in omega (arith, r)
nth_size (suc n) (ref w k m) y h = let r : size y ≤ size m = nth_size n m y h in omega (arith, r)
nth_size (suc n) (mark i m) y h = let r : size y ≤ size m = nth_size (suc n) m y h in omega (arith, r)

smaller : (n : ℕ) (x y : Core) → nth n (parts_in x) ≡ Some y → size y < size x
smaller n end y h = cc
smaller n (node t c m) y h = let r : size y ≤ size c = nth_size n c y h in omega (arith, r)
smaller n (place i j m) y h = cc
smaller n (number v m) y h = cc
smaller n (flag b m) y h = cc
smaller n (chosen t k m) y h = cc
smaller n (ref w k m) y h = cc
smaller n (mark i m) y h = cc

pub each_smaller : (n : ℕ) (x : Core) (o : Option Core) → o ≡ nth n (parts_in x) → IfSome o (λ y. size y < size x)
each_smaller n x None h = tt
each_smaller n x (Some y) h = smaller n x y (sym h)

-- ---- a node, by where in it it is
module _ (s : Sought) (t : Tag) (x : Core) (g : is_single x ≡ true) (h : tag_in x ≡ Some (tag_of t)) where
  pub nothing_is : role_in s t ≡ of_role.Nothing → nothing ≡ step_in s x
  nothing_is r = sym (node_says s t x g h ∙ ap (λ z. role_says z x (map (step_in s) (parts_in x))) r)

  pub itself_is : role_in s t ≡ of_role.Itself → answer x ≡ step_in s x
  itself_is r = sym (node_says s t x g h ∙ ap (λ z. role_says z x (map (step_in s) (parts_in x))) r)

  pub part_is : (r : Role) (n : ℕ) (o : Option Core) → role_in s t ≡ r
      → ((steps : List (Next Core)) → role_says r x steps ≡ or_nothing (nth n steps)) → o ≡ nth n (parts_in x)
      → step_in s x ≡ part_says s o
  part_is r n o i says e =
      node_says s t x g h ∙ (ap (λ z. role_says z x (map (step_in s) (parts_in x))) i
      ∙ (says (map (step_in s) (parts_in x))
      ∙ (ap or_nothing (nth_map (step_in s) n (parts_in x)) ∙ ap (part_says s) (sym e))))

  pub choice_is : (r : Role) (n m : ℕ) (o p : Option Core) → role_in s t ≡ r
      → ((steps : List (Next Core)) → role_says r x steps ≡ choice_of (nth n steps) (or_nothing (nth m steps)))
      → o ≡ nth n (parts_in x) → p ≡ nth m (parts_in x) → Offers s x o p
  choice_is r n m o p i says e f =
      record {
        is = node_says s t x g h ∙ (ap (λ z. role_says z x (map (step_in s) (parts_in x))) i
            ∙ (says (map (step_in s) (parts_in x))
            ∙ (ap (λ z. choice_of z (or_nothing (nth m (map (step_in s) (parts_in x)))))
            (nth_map (step_in s) n (parts_in x))
            ∙ (ap (λ z. choice_of (option_map (step_in s) (nth n (parts_in x))) (or_nothing z))
            (nth_map (step_in s) m (parts_in x))
            ∙ (ap (λ z. choice_of (option_map (step_in s) z) (part_says s (nth m (parts_in x)))) (sym e)
            ∙ ap (λ z. choice_of (option_map (step_in s) o) (part_says s z)) (sym f))))));
        smaller = each_smaller n x o e;
        other = each_smaller m x p f;
      }

-- ---- arguments in a component
pub tagged : (s : Sought) (x : Core) (t : Tag) → tag_in x ≡ Some (tag_of t)
    → arguments_in s x ≡ if_holds (holds_it s (tag_of t)) (part_says s (nth 0 (parts_in x)))
tagged s end t h = cc
tagged s (node u c n) t h =
    let f : u ≡ tag_of t = some_is u (tag_of t) h in
    ap (λ z. if_holds (holds_it s z) (part_says s (nth 0 (trees_of c)))) f
tagged s (place i j n) t h = cc
tagged s (number v n) t h = cc
tagged s (flag b n) t h = cc
tagged s (chosen u k n) t h = cc
tagged s (ref w k n) t h = cc
tagged s (mark i n) t h = cc

first_of : (s : Sought) (xs : List Core) → first_step (map (step_in s) xs) ≡ part_says s (nth 0 xs)
first_of s [] = refl
first_of s (x ∷ xs) = refl

prefix_if : (t : core.Tag) (p : Next Core) → args_component as_prefix t p
    ≡ if_holds (holds_it of_sought.PrefixArguments t) p
prefix_if core.Tag.SubstitutablePrefix p = refl
prefix_if _ p = refl

type_if : (t : core.Tag) (p : Next Core) → args_component as_type t p ≡ if_holds (holds_it of_sought.TypeArguments t) p
type_if core.Tag.SubstitutableTypeNode p = refl
type_if _ p = refl

prefix_of : (x : Core) → is_single x ≡ true → arguments_in of_sought.PrefixArguments x
    ≡ component_in of_sought.PrefixArguments x
prefix_of (node t c n) h =
    sym (prefix_if t (args_step c)
    ∙ ap (if_holds (holds_it of_sought.PrefixArguments t))
    (ap first_step (steps_map (node_of of_sought.PrefixArguments) (word_of of_sought.PrefixArguments) c)
    ∙ first_of of_sought.PrefixArguments (trees_of c)))
prefix_of (mark i n) h = cc
prefix_of _ h = refl

type_of : (x : Core) → is_single x ≡ true → arguments_in of_sought.TypeArguments x
    ≡ component_in of_sought.TypeArguments x
type_of (node t c n) h =
    sym (type_if t (args_step c)
    ∙ ap (if_holds (holds_it of_sought.TypeArguments t))
    (ap first_step (steps_map (node_of of_sought.TypeArguments) (word_of of_sought.TypeArguments) c)
    ∙ first_of of_sought.TypeArguments (trees_of c)))
type_of (mark i n) h = cc
type_of _ h = refl

pub prefix_arguments_in : (a : Arena) (k : ℕ) → arguments_in of_sought.PrefixArguments (tree_at a k)
    ≡ component_in of_sought.PrefixArguments (tree_at a k)
prefix_arguments_in a k = prefix_of (tree_at a k) (single a k)

pub type_arguments_in : (a : Arena) (k : ℕ) → arguments_in of_sought.TypeArguments (tree_at a k)
    ≡ component_in of_sought.TypeArguments (tree_at a k)
type_arguments_in a k = type_of (tree_at a k) (single a k)

-- ---- components
abbrev is_whole : Sought → Bool
is_whole of_sought.LeafName = true
is_whole of_sought.Special = true
is_whole _ = false

whole : (s : Sought) (x : Core) → is_whole s ≡ true → step_in s x ≡ component_in s x
whole of_sought.LeafName x h = refl
whole of_sought.Special x h = refl
whole of_sought.PrefixArguments x h = cc
whole of_sought.TypeArguments x h = cc

partly : (s : Sought) (a : Arena) (k : ℕ) → is_whole s ≡ false
    → arguments_in s (tree_at a k) ≡ component_in s (tree_at a k)
partly of_sought.LeafName a k h = cc
partly of_sought.Special a k h = cc
partly of_sought.PrefixArguments a k h = prefix_arguments_in a k
partly of_sought.TypeArguments a k h = type_arguments_in a k

pub leaf_whole : (s : Sought) (x : Core) → s ≡ of_sought.LeafName → step_in s x ≡ component_in s x
leaf_whole s x h = whole s x (ap is_whole h)

pub special_whole : (s : Sought) (x : Core) → s ≡ of_sought.Special → step_in s x ≡ component_in s x
special_whole s x h = whole s x (ap is_whole h)

pub prefix_partly : (s : Sought) (a : Arena) (k : ℕ) → s ≡ of_sought.PrefixArguments
    → arguments_in s (tree_at a k) ≡ component_in s (tree_at a k)
prefix_partly s a k h = partly s a k (ap is_whole h)

pub type_partly : (s : Sought) (a : Arena) (k : ℕ) → s ≡ of_sought.TypeArguments
    → arguments_in s (tree_at a k) ≡ component_in s (tree_at a k)
type_partly s a k h = partly s a k (ap is_whole h)
