-- What contracts of lines see of a context: the page.
use Rattle.std.specs.Prelude.{Option}
use Rattle.demangle_core.specs.Core.{Core}
use Rattle.demangle_core.specs.Table.{Table}
use Rattle.demangle_meets.specs.Seen.{Seen}
use Rattle.demangle_meets.specs.Page.{Trouble, Fixed, Page}
use Rattle.demangle_context.specs.Room.{reserve}
use Rattle.demangle_context.specs.View.{View, last_byte, view}
use Rattle.demangle_context.specs.declared.context.Context.{Context}

-- `table` says what the trees refer to.
module _ {S : Type 0} (table : S → Table) where
  abbrev pub fixed_of : View S → Fixed
  fixed_of v =
      record {
        reserved = reserve v.items.limit;
        level = v.items.level;
        limit = v.items.limit;
        refers = record { table = table v.subs; input = v.input };
        listener = v.name;
      }

  -- the page with this trouble
  abbrev pub page_with : Option Trouble → View S → Page
  page_with trouble v =
      record {
        inner = v.items.inner;
        kept = v.items.kept;
        aside = v.items.aside;
        last = last_byte v.last_char;
        last_char = v.last_char;
        source = v.source;
        flags = v.flags;
        room = v.room;
        fixed = fixed_of v;
        seen = v.seen;
        trouble = trouble;
      }

  abbrev pub page_of : View S → Page
  page_of v = page_with v.trouble v

unfoldable pub page : {T S W : Type 0} → (T → Core) → (S → Table) → (W → Seen) → Context T S W → Page
page tree table seen c = page_of table (view tree seen c)
