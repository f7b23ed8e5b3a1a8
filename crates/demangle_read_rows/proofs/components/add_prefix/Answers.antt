use Rattle.std.proofs.Common.{sym, ◌∙◌}
use Rattle.demangle_read_rows.proofs.components.add_prefix.Goals as goal

pub returns-then-next_is-clause-adds : goal.returns-then-next_is-clause-adds
returns-then-next_is-clause-adds c = rw (sym c.next_is.ensures ∙ c.if-next_is.true) c.add_cell.ensures.adds

pub returns-clause-adds : goal.returns-clause-adds
returns-clause-adds c = rw (sym c.next_is.ensures ∙ c.if-next_is.false) c.add_cell-2.ensures.adds
