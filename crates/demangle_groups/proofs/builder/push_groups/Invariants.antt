use Rattle.std.proofs.Common.{◌≡◌, ◌++◌, map}
use Rattle.demangle_groups.specs.Kept.{group_at}
use Rattle.demangle_groups.proofs.builder.push_groups.Given as goal

abbrev pub invariant-loop-scope : goal.invariant-loop-scope
invariant-loop-scope l = l.groups.items ≡ l.initial.groups.items ++ map group_at l.yielded
