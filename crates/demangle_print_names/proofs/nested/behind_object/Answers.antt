use Rattle.std.proofs.Common.{true}
use Rattle.demangle_printing.specs.State.{object}
use Rattle.demangle_meets.proofs.Acts.{meets_done, meets_set}
use Rattle.demangle_meets.proofs.Lines.{meets_rest}
use Rattle.demangle_print_names.proofs.nested.behind_object.Goals as goal

pub returns : goal.returns
returns g c =
    meets_set {i = object} {v = true} c.turn.ensures (meets_rest (c.one_waiting.ensures _) meets_done)
