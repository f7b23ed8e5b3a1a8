use Rattle.demangle_read_below.proofs.tied.TiedBelow.encoding.Goals as goal

pub returns-clause-reads : goal.returns-clause-reads
returns-clause-reads g c = c.requires.can.4.reads _ _ _ _ _ _ c.call_once.ensures
