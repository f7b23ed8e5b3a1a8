use Rattle.std.proofs.Common.{take}
use Rattle.demangle_groups.specs.Kept.{Keeps}
use Rattle.demangle_parts.specs.Entries.{entries}
use Rattle.demangle_parts.proofs.index.indexed.Given as goal

abbrev pub invariant-loop-position : goal.invariant-loop-position
invariant-loop-position l = Keeps l.builder (entries l.print (take l.position l.names))
