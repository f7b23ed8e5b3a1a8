use Rattle.demangle_read.specs.Reading.{reading}
use Rattle.cpp_demangle.proofs.KeptNames.{ends_inside, front_kept, front_missing, rest_is}
use Rattle.cpp_demangle.proofs.reading.read_front.Goals as goal

pub slice_bounds-rest-count : goal.slice_bounds-rest-count
slice_bounds-rest-count c =
    ends_inside c.args.options.now c.args.input.now c.read_front.new.arena c.in-Ok.part c.in-Ok.ensures

pub slice_bounds-rest-start : goal.slice_bounds-rest-start
slice_bounds-rest-start c =
    ends_inside c.args.options.now c.args.input.now c.read_front.new.arena c.in-Ok.part c.in-Ok.ensures

pub returns-in-Ok-of : goal.returns-in-Ok-of
returns-in-Ok-of c =
    front_kept c.in-Ok-of.name c.read_front.new.arena c.args.input.now _
    (reading c.args.options.now c.args.input.now) c.in-Ok.part c.in-Ok.ensures c.in-Ok-of.ensures
    (rest_is c.in-Ok.part.end c.args.input.now)

pub returns : goal.returns
returns c =
    front_missing c.read_front.new.arena c.args.input.now (reading c.args.options.now c.args.input.now) c.in-Err.error
    c.in-Err.ensures
