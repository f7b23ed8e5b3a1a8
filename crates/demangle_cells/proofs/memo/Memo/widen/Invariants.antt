use Rattle.std.proofs.Common.{◌≡◌}
use Rattle.demangle_cells.specs.Memo.{memory}
use Rattle.demangle_cells.proofs.memo.Memo.widen.Given as goal

abbrev pub invariant-loop-number : goal.invariant-loop-number
invariant-loop-number l = memory l.self ≡ memory l.fn.self
