use Rattle.demangle_read_below.proofs.tied.TiedBelow.template_arg.Goals as goal

pub returns-clause-reads : goal.returns-clause-reads
returns-clause-reads g c = c.requires.can.2.reads _ _ _ _ _ _ c.call_once.ensures
