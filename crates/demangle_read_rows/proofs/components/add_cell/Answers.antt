use Rattle.demangle_read_rows.proofs.Added.{adds_cell}
use Rattle.demangle_read_rows.proofs.components.add_cell.Goals as goal

pub returns-clause-adds : goal.returns-clause-adds
returns-clause-adds c =
    adds_cell _ _ c.args.cell _ c.add_over.result _ _ _ c.push.ensures.table c.in_ok-part.ensures.made
    c.add_over.ensures.grown c.add_over.ensures.reference c.add_over.ensures.added c.add_over.ensures.refused
