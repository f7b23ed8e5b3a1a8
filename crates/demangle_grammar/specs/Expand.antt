-- Trees without their table and their input: in place of each reference stands the entry that it is to, in place of
-- each place its bytes.
use Rattle.std.specs.Prelude.{ℕ, zero, suc, ℤ, Bool, List, length, Option, Some}
use Rattle.demangle_core.specs.Core.{Core, Tag, Which}
use Rattle.demangle_core.specs.Core as core
use Rattle.demangle_core.specs.Table.{Table, entry_at}
use Rattle.demangle_grammar.specs.Sound.{bytes_of}

-- a row of expanded trees, the first of them first
pub data Expanded : Type 0 where
  end : Expanded
  node : Tag → (children : Expanded) → (next : Expanded) → Expanded
  bytes : List ℕ → (next : Expanded) → Expanded
  number : ℤ → (next : Expanded) → Expanded
  flag : Bool → (next : Expanded) → Expanded
  chosen : (table word : ℕ) → (next : Expanded) → Expanded
  -- a reference that leads to nothing: none of a sound tree does
  nothing : (next : Expanded) → Expanded

-- What stands in place of a reference: a node of its entry's own kind, which holds the expanded entry.
abbrev pub in_place : (Core → Expanded) → Option Core → (next : Expanded) → Expanded
in_place of (Some (core.node kind c m)) n = node kind (of c) n
in_place of _ n = nothing n

-- With what stands in place of a reference. A reference is the only thing in a node, its handle, of which nothing
-- stays; nor does the place where an argument list began.
abbrev pub expand_with : (Which → ℕ → (next : Expanded) → Expanded) → List ℕ → Core → Expanded
expand_with of input core.end = end
expand_with of input (core.node handle (core.ref w k m) n) = of w k (expand_with of input n)
expand_with of input (core.node t c n) = node t (expand_with of input c) (expand_with of input n)
expand_with of input (core.place i j n) = bytes (bytes_of input i j) (expand_with of input n)
expand_with of input (core.number v n) = number v (expand_with of input n)
expand_with of input (core.flag b n) = flag b (expand_with of input n)
expand_with of input (core.chosen t k n) = chosen t k (expand_with of input n)
expand_with of input (core.ref w k n) = of w k (expand_with of input n)
expand_with of input (core.mark i n) = expand_with of input n

-- with at most so many references followed, one behind the other
abbrev pub expand_upto : ℕ → Table → List ℕ → Core → Expanded
expand_upto zero table input c = expand_with (λ w k n. nothing n) input c
expand_upto (suc most) table input c =
    expand_with (λ w k n. in_place (λ x. expand_upto most table input x) (entry_at w k table) n) input c

-- A tree with its references followed. In a sound tree and table each reference is to an earlier entry, so that as
-- many steps as there are entries are enough.
unfoldable pub expand : Table → List ℕ → Core → Expanded
expand table input c = expand_upto (length table) table input c

-- no reference led to nothing
abbrev pub IsExpanded : Expanded → Type 0
IsExpanded end = Unit {0}
IsExpanded (node t c n) = IsExpanded c × IsExpanded n
IsExpanded (bytes b n) = IsExpanded n
IsExpanded (number v n) = IsExpanded n
IsExpanded (flag b n) = IsExpanded n
IsExpanded (chosen t k n) = IsExpanded n
IsExpanded (nothing n) = ⊥
