use Rattle.std.proofs.Common.{◌≡◌, ◌++◌, drop}
use Rattle.cppfilt_ends.specs.Moves.{Moves}
use Rattle.cppfilt_run.proofs.NameLaws.{due_lent}
use Rattle.cppfilt_run.proofs.names.write_names.Given as goal

abbrev pub invariant-loop-name : goal.invariant-loop-name
invariant-loop-name g l =
    Moves (g.W.Sink.written l.fn.output) (g.W.Sink.written l.output) (due_lent l.options l.names)
    (l.pending.items ++ due_lent l.options (drop l.name-index l.names))
    × (g.W.Sink.faults l.output ≡ g.W.Sink.faults l.fn.output)
