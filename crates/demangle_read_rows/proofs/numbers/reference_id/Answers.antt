use Rattle.std.proofs.Common.{◌<◌, arith}
use Rattle.demangle_cells.specs.Fixed.{first_reference}
use Rattle.demangle_read_rows.proofs.References.{reference_is}
use Rattle.demangle_read_rows.proofs.numbers.reference_id.Goals as goal

pub returns-clause-reference : goal.returns-clause-reference
returns-clause-reference c F v h =
    let few : c.args.number < first_reference = omega (arith, c.if-number.false) in
    reference_is F v c.args.number few h
