use Rattle.std.proofs.Common.{◌≡◌, ◌++◌, length}
use Rattle.demangle_stream.specs.Appended.{Grown}
use Rattle.demangle_stream.specs.Replaced.{replaced}
use Rattle.demangle_stream.proofs.names.append_replaced.Given as goal

abbrev pub invariant-loop-at : goal.invariant-loop-at
invariant-loop-at l =
    (l.out.items ++ replaced l.parse l.print l.behind ≡ l.fn.out.items ++ replaced l.parse l.print l.text)
    × Grown l.fn.out.items l.out.items

abbrev pub decreases-loop-at : goal.decreases-loop-at
decreases-loop-at l = length l.behind
