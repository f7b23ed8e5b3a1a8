use Rattle.std.proofs.Common.{◌≡◌, ◌++◌, ℕ, map, take}
use Rattle.demangle_core.specs.Core.{Core}
use Rattle.demangle_core.specs.Table.{cut, sizes}
use Rattle.demangle_table.specs.TableOf.{table_of}
use Rattle.demangle_cells.specs.View.{view, entry, Holds}
use Rattle.demangle_parse.proofs.entries.take_entries.Given as goal

abbrev pub invariant-loop-component : goal.invariant-loop-component
invariant-loop-component l = record {
  kept : cut (sizes (table_of l.initial.subs)) (table_of l.subs) ≡ table_of l.initial.subs;
  added : (F : ℕ → Core) → Holds F (view l.arena)
      → table_of l.subs ≡ table_of l.initial.subs ++ map (entry F) (take l.component-index l.components);
}
