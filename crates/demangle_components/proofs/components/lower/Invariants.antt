use Rattle.std.proofs.Common.{◌≡◌, ◌≤◌, ◌++◌, length, map, min, take, drop}
use Rattle.demangle_components.proofs.components.lower.Given as goal

abbrev pub invariant-loop-i : goal.invariant-loop-i
invariant-loop-i l = record {
  within : l.i ≤ length l.initial.counts.items;
  lowered : l.counts.items ≡ take l.i l.initial.counts.items ++ map (min l.most) (drop l.i l.initial.counts.items);
}

abbrev pub decreases-loop-i : goal.decreases-loop-i
decreases-loop-i l = l.i
