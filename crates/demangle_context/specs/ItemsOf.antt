-- What is seen of the stacks.
use Rattle.std.specs.Prelude.{ℕ, List, map, reverse, take, drop}
use Rattle.demangle_core.specs.Core.{Core}
use Rattle.demangle_printing.specs.State.{Held}
use Rattle.demangle_context.specs.Items.{Items}
use Rattle.demangle_context.specs.declared.inner_items.HeldItem.{HeldItem}
use Rattle.demangle_context.specs.declared.inner_items.InnerItems.{InnerItems}

abbrev pub held : {T : Type 0} → (T → Core) → HeldItem T → Held Core
held tree h = record { item = tree h.item; level = h.level }

-- The last on a stack is the newest.
abbrev pub newest_first : {A B : Type 0} → (A → B) → List A → List B
newest_first f xs = reverse (map f xs)

-- Above the base stand the items that wait, below it those that are set aside.
abbrev pub stacked : {A : Type 0} → (A → Held Core) → (base : ℕ) → (stack kept : List A) → (level limit : ℕ) → Items
stacked f base xs ks level limit =
    record {
      inner = newest_first f (drop base xs);
      kept = newest_first f ks;
      aside = newest_first f (take base xs);
      level = level;
      limit = limit;
    }

unfoldable pub items_of : {T : Type 0} → (T → Core) → InnerItems T → Items
items_of tree s = stacked (held tree) s.base s.items.items s.kept.items s.level s.limit
