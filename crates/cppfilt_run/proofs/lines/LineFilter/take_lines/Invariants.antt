use Rattle.std.proofs.Common.{◌≡◌, List, ℕ, ◌++◌, length}
use Rattle.cppfilt_ends.specs.Moves.{Moves}
use Rattle.cppfilt_lines.specs.Lines.{before_feed, unfinished}
use Rattle.cppfilt_run.specs.Owed.{ahead}
use Rattle.cppfilt_run.proofs.lines.LineFilter.take_lines.Given as goal

abbrev pub invariant-loop-rest : goal.invariant-loop-rest
invariant-loop-rest g l =
    ((more : List ℕ) → Moves (g.W.Sink.written l.fn.output) (g.W.Sink.written l.output)
    (ahead l.options l.fn.self.pending.items l.fn.self.held.items (l.block ++ more))
    (ahead l.options l.self.pending.items l.self.held.items (l.rest ++ more)))
    × (g.W.Sink.faults l.output ≡ g.W.Sink.faults l.fn.output)
    × (before_feed l.self.held.items ≡ length l.self.held.items)
    × (front : List ℕ) × (l.block ≡ front ++ l.rest)
    × ((seen : List ℕ) → l.fn.self.held.items ≡ unfinished seen → l.self.held.items ≡ unfinished (seen ++ front))

abbrev pub decreases-loop-rest : goal.decreases-loop-rest
decreases-loop-rest g l = length l.rest
