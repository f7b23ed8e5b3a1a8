use Rattle.std.proofs.Common.{ap, ◌-◌}
use Rattle.demangle_cells.specs.View.{view}
use Rattle.demangle_read.proofs.Fronts.{front_read}
use Rattle.demangle_read.proofs.whole.read_front.Goals as goal

pub returns : goal.returns
returns c =
    front_read c.args.options.now (c.limit.result - 1) c.args.bytes.now c.in-Some.text c.mangled_name.result
    (view c.clear.new.self) (view c.mangled_name.new.arena) c.in-Some.ensures c.clear.ensures.entries
    (ap (λ n. n - 1) c.limit.ensures.value) c.mangled_name.ensures.reads
