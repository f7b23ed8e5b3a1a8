use Rattle.std.proofs.Common.{◌≤◌, ◌∙◌, ap, sym, arith}
use Rattle.demangle_printing.specs.Trees.{look_component}
use Rattle.demangle_cells.specs.Fixed.{first_reference}
use Rattle.demangle_cell_trees.specs.ArenaTrees.{table_of}
use Rattle.demangle_cell_trees.proofs.Looks.{numbered_look, other_look}
use Rattle.demangle_cell_trees.proofs.cells.referred.Goals as goal

pub returns-then-id-ge-FIRST_OTHER_REFERENCE : goal.returns-then-id-ge-FIRST_OTHER_REFERENCE
returns-then-id-ge-FIRST_OTHER_REFERENCE c =
    λ a input. other_look a c.args.at c.low_half-id.result (table_of c.args.subs.now) input c.low_half-id.ensures
    c.if-id-ge-FIRST_OTHER_REFERENCE.true
    ∙ ap look_component (sym c.other.ensures)

pub returns : goal.returns
returns c =
    let h : first_reference ≤ c.low_half-id.result = grind (arith, c.requires, c.low_half-id.ensures) in
    λ a input. numbered_look a c.args.at c.low_half-id.result (table_of c.args.subs.now) input c.low_half-id.ensures h
    c.if-id-ge-FIRST_OTHER_REFERENCE.false
    ∙ ap look_component (sym c.numbered.ensures)
