-- What contracts see of a context.
use Rattle.std.specs.Prelude.{ℕ, ◌+◌, ◌-◌, List, Option, Some, None, option_map}
use Rattle.std.specs.Char.{encode_utf8}
use Rattle.demangle_core.specs.Core.{Core}
use Rattle.demangle_printing.specs.State.{Flags, State, last_of}
use Rattle.demangle_printing.specs.Outcome.{Options, first_state}
use Rattle.demangle_meets.specs.Seen.{Seen}
use Rattle.demangle_meets.specs.Page.{Trouble}
use Rattle.demangle_context.specs.Items.{Items, no_items}
use Rattle.demangle_context.specs.ItemsOf.{items_of}
use Rattle.demangle_context.specs.TroubleOf.{trouble_of}
use Rattle.demangle_context.specs.declared.context.DemangleFlags.{DemangleFlags}
use Rattle.demangle_context.specs.declared.context.Context.{Context}

-- `subs` is the table, of whatever type; `name` is that of the reference to the listener, which stays the same one;
-- `trouble` is the first one that a step of a line met.
pub record View (S : Type 0) : Type 0 where
  pub items : Items
  pub last_char : Option ℕ
  pub source : Option (List ℕ)
  pub flags : Flags
  pub room : Option ℕ
  pub seen : Seen
  pub subs : S
  pub input : List ℕ
  pub name : ℕ
  pub trouble : Option Trouble

-- ---- the state of the printing
abbrev pub last_byte : Option ℕ → Option ℕ
last_byte None = None
last_byte (Some c) = last_of None (encode_utf8 c)

abbrev pub state_of : {S : Type 0} → View S → State Core
state_of v =
    record {
      inner = v.items.inner;
      kept = v.items.kept;
      last = last_byte v.last_char;
      source = v.source;
      level = v.items.level;
      flags = v.flags;
      room = v.room;
    }

-- how many levels are left below this one
abbrev pub levels_left : {S : Type 0} → View S → ℕ
levels_left v = v.items.limit - (v.items.level + 1)

-- a context in which nothing was printed
abbrev pub first_view : {S : Type 0} → Options → S → List ℕ → Seen → (name : ℕ) → View S
first_view o subs input seen name =
    record {
      items = no_items o.limit;
      last_char = None;
      source = None;
      flags = (first_state {X = Core} o).flags;
      room = o.output_limit;
      seen = seen;
      subs = subs;
      input = input;
      name = name;
      trouble = None;
    }

-- the same, but for the items and the level
abbrev pub with_items : {S : Type 0} → (Items → Items) → View S → View S
with_items f v = record v { items = f v.items }

-- ---- a context
abbrev pub flags_of : DemangleFlags → Flags
flags_of f =
    record {
      lambda = f.lambda;
      tprefix = f.tprefix;
      nprefix = f.nprefix;
      pack = f.pack;
      object = f.object;
      params = f.params;
      returns = f.returns;
      littypes = f.littypes;
    }

unfoldable pub view : {T S W : Type 0} → (T → Core) → (W → Seen) → Context T S W → View S
view tree seen c =
    record {
      items = items_of tree c.items;
      last_char = c.last;
      source = option_map (λ x. x.now) c.source;
      flags = flags_of c.flags;
      room = c.room;
      seen = seen c.out.now;
      subs = c.subs.now;
      input = c.input.now;
      name = c.out.ghost_name;
      trouble = option_map trouble_of c.trouble;
    }
