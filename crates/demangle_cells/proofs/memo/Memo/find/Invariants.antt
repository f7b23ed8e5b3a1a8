use Rattle.demangle_cells.proofs.memo.Memo.find.Given as goal

abbrev pub decreases-loop-link : goal.decreases-loop-link
decreases-loop-link l = l.link
