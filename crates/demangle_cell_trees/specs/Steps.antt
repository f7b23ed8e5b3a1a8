-- What is looked up in trees.
use Rattle.std.specs.Prelude.{◌≡◌, ℕ, suc, ◌+◌, ◌-◌, ◌*◌, ◌/◌, ◌%◌, ◌<◌, ◌≤◌, Bool, true, false, List, Option, Some}
use Rattle.std.specs.Prelude.{None, IfSome, option_map, ◌==◌, ◌&&◌, ◌||◌, nat_lt, if◌then◌else◌}
use Rattle.demangle_core.specs.Core.{Core, Tag, end, node, place, number, flag, chosen, ref, mark, N, U}
use Rattle.demangle_core.specs.Table.{Table}
use Rattle.demangle_core.specs.Lookups.{Next, answer, nothing, at, else_next, first_step, leaf_node, leaf_word}
use Rattle.demangle_core.specs.Lookups.{args_node, special_node, no_word, steps_of, leaf_step, component_args}
use Rattle.demangle_core.specs.Lookups.{special_step, settled, as_prefix, as_type}
use Rattle.demangle_printing.specs.Trees.{trees_of}
use Rattle.demangle_printing.specs.World.{nth}
use Rattle.demangle_cells.specs.declared.arena.Arena.{Arena}
use Rattle.demangle_cell_trees.specs.ArenaTrees.{first_inside, tree_at}
use Rattle.demangle_cell_trees.specs.Own.{has_plain, parts_in}
use Rattle.demangle_cell_trees.specs.declared.roles.Role.{Role}
use Rattle.demangle_cell_trees.specs.declared.roles.Role.TheVariants as of_role
use Rattle.demangle_cell_trees.specs.declared.roles.Sought.{Sought}
use Rattle.demangle_cell_trees.specs.declared.roles.Sought.TheVariants as of_sought

-- ---- the look-ups
abbrev pub node_of : Sought → Tag → Core → List (Next Core) → Next Core
node_of of_sought.LeafName = leaf_node
node_of of_sought.PrefixArguments = args_node
node_of of_sought.TypeArguments = args_node
node_of of_sought.Special = special_node

abbrev pub word_of : Sought → ℕ → ℕ → Core → Next Core
word_of of_sought.LeafName = leaf_word
word_of of_sought.PrefixArguments = no_word
word_of of_sought.TypeArguments = no_word
word_of of_sought.Special = no_word

-- where one comes to in a tree
abbrev pub step_in : Sought → Core → Next Core
step_in s c = first_step (steps_of (node_of s) (word_of s) c)

-- in a component
abbrev pub component_in : Sought → Core → Next Core
component_in of_sought.LeafName c = leaf_step c
component_in of_sought.PrefixArguments c = component_args as_prefix c
component_in of_sought.TypeArguments c = component_args as_type c
component_in of_sought.Special c = special_step c

abbrev pub found_in : Sought → Table → Core → Option Core
found_in s t c = settled (component_in s) t (step_in s c)

-- ---- by where it is in a node
abbrev pub or_nothing : Option (Next Core) → Next Core
or_nothing None = nothing
or_nothing (Some s) = s

abbrev pub choice_of : Option (Next Core) → Next Core → Next Core
choice_of None b = nothing
choice_of (Some a) b = else_next a b

abbrev pub role_says : Role → Core → List (Next Core) → Next Core
role_says of_role.Itself x steps = answer x
role_says of_role.First x steps = or_nothing (nth 0 steps)
role_says of_role.Second x steps = or_nothing (nth 1 steps)
role_says of_role.Third x steps = or_nothing (nth 2 steps)
role_says of_role.SecondElseFirst x steps = choice_of (nth 1 steps) (or_nothing (nth 0 steps))
role_says of_role.FourthElseThird x steps = choice_of (nth 3 steps) (or_nothing (nth 2 steps))
role_says of_role.Nothing x steps = nothing

-- where one comes to in a part, if it is there
abbrev pub part_says : Sought → Option Core → Next Core
part_says s o = or_nothing (option_map (step_in s) o)

-- in a component, where a look-up of arguments asks for its sort
abbrev pub holds_it : Sought → Tag → Bool
holds_it of_sought.PrefixArguments Tag.SubstitutablePrefix = true
holds_it of_sought.PrefixArguments t = false
holds_it of_sought.TypeArguments Tag.SubstitutableTypeNode = true
holds_it s t = false

abbrev pub if_holds : Bool → Next Core → Next Core
if_holds true s = s
if_holds false s = nothing

abbrev pub arguments_in : Sought → Core → Next Core
arguments_in s (node t c n) = if_holds (holds_it s t) (part_says s (nth 0 (trees_of c)))
arguments_in s _ = nothing

-- ---- words
abbrev pub is_leaf_word : ℕ → ℕ → Bool
is_leaf_word t w = (t == 2) && nat_lt 0 w

-- ---- steps by a number: an index that is the answer, and behind all indexes a component
abbrev pub first_numbered : ℕ
first_numbered = 4294967296

abbrev pub first_other : ℕ
first_other = 8589934592

abbrev pub past_steps : ℕ
past_steps = 12884901888

abbrev pub step_of : Arena → ℕ → Next Core
step_of a n =
    if nat_lt n first_numbered then answer (tree_at a n) else
    if nat_lt n first_other then at N (n - first_numbered) else
    if nat_lt n past_steps then at U (n - first_other) else nothing

abbrev pub is_nothing : Next Core → Bool
is_nothing nothing = true
is_nothing _ = false

-- how many trees a row has with all of their parts
abbrev pub size : Core → ℕ
size end = 0
size (node t c n) = suc (size c + size n)
size (place i j n) = suc (size n)
size (number v n) = suc (size n)
size (flag b n) = suc (size n)
size (chosen t k n) = suc (size n)
size (ref w k n) = suc (size n)
size (mark i n) = suc (size n)

-- What is to be done for a tree: nothing more, to go into a part of it, or into one and maybe into another.
pub record Goes (s : Sought) (x y : Core) : Type 0 where
  pub is : step_in s x ≡ step_in s y
  pub smaller : size y < size x

pub record Chooses (s : Sought) (x y : Core) (z : Option Core) : Type 0 where
  pub is : step_in s x ≡ else_next (step_in s y) (part_says s z)
  pub smaller : size y < size x
  pub other : IfSome z (λ c. size c < size x)

-- the same where the first may not be there
pub record Offers (s : Sought) (x : Core) (y z : Option Core) : Type 0 where
  pub is : step_in s x ≡ choice_of (option_map (step_in s) y) (part_says s z)
  pub smaller : IfSome y (λ c. size c < size x)
  pub other : IfSome z (λ c. size c < size x)

-- What is to be done by a number: a step, or in the upper half 4, to go into the part whose index is in the lower half,
-- or 5, the same and maybe into the first part, or 6, maybe into the third.
abbrev pub is_step : ℕ → Bool
is_step n = nat_lt (n / first_inside) 4 || nat_lt 6 (n / first_inside)

abbrev pub part_index : ℕ → ℕ
part_index n = n % first_inside

abbrev pub other_part : ℕ → ℕ
other_part n = ((n / first_inside) - 5) * 2

-- a choice whose first part is still to be said
pub record IsWay (n : ℕ) : Type 0 where
  pub low : 5 ≤ n / first_inside
  pub high : n / first_inside ≤ 6
  pub whole : n ≡ (n / first_inside) * first_inside

pub record Turns (s : Sought) (a : Arena) (x : Core) (n : ℕ) : Type 0 where
  pub done : is_step n ≡ true → step_of a n ≡ step_in s x
  pub into : n / first_inside ≡ 4 → Goes s x (tree_at a (part_index n))
  pub plain : 5 ≤ n / first_inside → n / first_inside ≤ 6 → has_plain x ≡ true
  pub choice : 5 ≤ n / first_inside → n / first_inside ≤ 6
      → Chooses s x (tree_at a (part_index n)) (nth (other_part n) (parts_in x))

-- a part by its index
abbrev pub index_tree : Arena → ℕ → Option Core
index_tree a n = if nat_lt n first_inside then Some (tree_at a n) else None
