-- The inner items of a printing and its level, as contracts see them, and what the calls change.
use Rattle.std.specs.Prelude.{ℕ, ◌+◌, ◌-◌, ◌<◌, Bool, true, false, List, [], ◌∷◌, ◌++◌, length, take, drop, Option}
use Rattle.std.specs.Prelude.{option_map}
use Rattle.demangle_core.specs.Core.{Core}
use Rattle.demangle_printing.specs.State.{Held, rest}
use Rattle.demangle_printing.specs.Act.{put_back}
use Rattle.demangle_printing.specs.World.{nth}
use Rattle.demangle_context.specs.Room.{reserve}

-- Items stand newest first: those that wait, those that are kept, and those that are set aside, of which those that
-- were set aside last are the first.
pub record Items : Type 0 where
  pub inner : List (Held Core)
  pub kept : List (Held Core)
  pub aside : List (Held Core)
  pub level : ℕ
  pub limit : ℕ

abbrev pub no_items : (limit : ℕ) → Items
no_items limit = record { inner = []; kept = []; aside = []; level = 0; limit = limit }

-- There are fewer items than a stack has room for from the beginning.
pub record HasRoom (s : Items) : Type 0 where
  pub is : length s.aside + (length s.inner + length s.kept) < reserve s.limit

-- ---- levels
abbrev pub one_deeper : Items → Items
one_deeper s = record s { level = s.level + 1 }

abbrev pub one_less_deep : Items → Items
one_less_deep s = record s { level = s.level - 1 }

-- ---- items that wait
abbrev pub tree_of : Held Core → Core
tree_of h = h.item

-- the tree of an item, counted from the newest
abbrev pub item_at : ℕ → List (Held Core) → Option Core
item_at n hs = option_map tree_of (nth n hs)

abbrev pub with_pushed_at : (level : ℕ) → Core → Items → Items
with_pushed_at level x s = record s { inner = record { item = x; level = level } ∷ s.inner }

-- pushed at the level
abbrev pub with_pushed : Core → Items → Items
with_pushed x s = with_pushed_at s.level x s

abbrev pub without_top : Items → Items
without_top s = record s { inner = rest s.inner }

abbrev pub without_top_if : Bool → Items → Items
without_top_if true s = without_top s
without_top_if false s = s

-- ---- items that are kept
abbrev pub with_kept : List (Held Core) → Items → Items
with_kept [] s = s
with_kept (h ∷ hs) s = record s { inner = hs; kept = h ∷ s.kept }

-- the top item is kept, where there is one
abbrev pub with_top_kept : Items → Items
with_top_kept s = with_kept s.inner s

-- the last so many of the kept items wait again, the last one deepest
abbrev pub with_returned : ℕ → Items → Items
with_returned n s = record s { inner = put_back n s.kept s.inner; kept = drop n s.kept }

-- ---- items that are set aside
abbrev pub set_aside : Items → Items
set_aside s = record s { inner = []; aside = s.inner ++ s.aside }

-- those that were set aside behind so many wait again, and those that wait are gone
abbrev pub brought_back : ℕ → Items → Items
brought_back before s =
    record s {
      inner = take (length s.aside - before) s.aside;
      aside = drop (length s.aside - before) s.aside;
    }
