use Rattle.std.proofs.Common.{◌≡◌, arith, refl, eqb, get_or, false, rules, tests, length}
use Rattle.cppfilt_run.specs.Staying.{begins_line, stays}
use Rattle.cppfilt_run.proofs.OwedLaws.{nil-from_length}
use Rattle.cppfilt_run.proofs.StayLaws.{stays-one}
use Rattle.cppfilt_run.proofs.staying.underscore_line.Goals as goal

pub staying_chunks-requires-clause-first : goal.staying_chunks-requires-clause-first
staying_chunks-requires-clause-first c =
    let other : eqb (get_or c.args.bytes.now 0 0) 95 ≡ false = search (rules, tests) in
    stays-one c.args.bytes.now other

-- no byte is there
pub returns-then-is_empty : goal.returns-then-is_empty
unfolding stays
returns-then-is_empty c =
    let none : length c.args.bytes.now ≡ 0 = search (rules, tests) in
    rw (nil-from_length c.args.bytes.now none) refl

-- the first is `_`
pub returns-then-bytes-eq-UNDERSCORE : goal.returns-then-bytes-eq-UNDERSCORE
unfolding stays begins_line
returns-then-bytes-eq-UNDERSCORE c = (omega arith, refl, refl)
