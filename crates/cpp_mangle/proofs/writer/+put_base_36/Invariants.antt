use Rattle.cpp_mangle.proofs.writer.+put_base_36.Given as goal

abbrev pub decreases-put_base_36 : goal.decreases-put_base_36
decreases-put_base_36 l = l.more
