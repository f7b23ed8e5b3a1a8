use Rattle.std.proofs.Common.{arith}
use Rattle.demangle_cells.specs.View.{view}
use Rattle.demangle_read.specs.Reading.{reading}
use Rattle.demangle_read.proofs.Fronts.{whole_read, whole_more}
use Rattle.demangle_read.proofs.whole.read_whole.Goals as goal

pub returns-then-name-bytes : goal.returns-then-name-bytes
returns-then-name-bytes c =
    whole_more (view c.read_front.new.arena) c.args.bytes.now (reading c.args.options.now c.args.bytes.now)
    c.in_ok-name.name c.in_ok-name.ensures c.if-name-bytes.true

pub returns : goal.returns
returns c =
    whole_read (view c.read_front.new.arena) c.args.bytes.now (reading c.args.options.now c.args.bytes.now)
    c.in_ok-name.name c.in_ok-name.ensures (let n = c.if-name-bytes.false in omega arith)
