use Rattle.std.proofs.Common.{◌≡◌, length}
use Rattle.cppfilt_ends.specs.Moves.{Moves}
use Rattle.cppfilt_ends.proofs.output.write_all.Given as goal

abbrev pub invariant-loop-rest : goal.invariant-loop-rest
invariant-loop-rest g l =
    Moves (g.W.Sink.written l.fn.output) (g.W.Sink.written l.output) l.bytes l.rest
    × (g.W.Sink.faults l.output ≡ g.W.Sink.faults l.fn.output)

abbrev pub decreases-loop-rest : goal.decreases-loop-rest
decreases-loop-rest g l = length l.rest
