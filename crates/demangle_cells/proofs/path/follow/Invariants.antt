use Rattle.demangle_cells.proofs.path.follow.Given as goal

abbrev pub decreases-loop-stamp : goal.decreases-loop-stamp
decreases-loop-stamp l = l.stamp
