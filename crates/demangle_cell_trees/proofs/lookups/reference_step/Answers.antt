use Rattle.std.proofs.Common.{◌<◌, arith}
use Rattle.demangle_cells.specs.Fixed.{first_other}
use Rattle.demangle_cell_trees.proofs.Ways.{numbered_reference, other_reference}
use Rattle.demangle_cell_trees.proofs.lookups.reference_step.Goals as goal

pub returns-then-id-ge-FIRST_OTHER_REFERENCE : goal.returns-then-id-ge-FIRST_OTHER_REFERENCE
returns-then-id-ge-FIRST_OTHER_REFERENCE c =
    λ s a. other_reference s a c.args.id c.if-id-ge-FIRST_OTHER_REFERENCE.true c.ranges.id.fits

pub returns : goal.returns
returns c =
    let h : c.args.id < first_other = omega arith in
    λ s a. numbered_reference s a c.args.id c.requires h
