use Rattle.demangle_read.specs.Reading.{reading, whole}
use Rattle.cpp_demangle.proofs.KeptNames.{whole_kept, whole_missing}
use Rattle.cpp_demangle.proofs.reading.read_whole.Goals as goal

pub returns-in-Ok-of : goal.returns-in-Ok-of
returns-in-Ok-of c =
    whole_kept c.in-Ok-of.name c.read_whole.new.arena (whole (reading c.args.options.now c.args.input.now)) c.in-Ok.id
    c.in-Ok.ensures c.in-Ok-of.ensures

pub returns : goal.returns
returns c =
    whole_missing c.read_whole.new.arena (whole (reading c.args.options.now c.args.input.now)) c.in-Err.error
    c.in-Err.ensures
