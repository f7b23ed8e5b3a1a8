use Rattle.std.proofs.Common.{◌≡◌, ◌<◌, arith, sym, rules, tests, eqb, get_or, false, length}
use Rattle.cppfilt_run.proofs.StayLaws.{stays-other, stays-past}
use Rattle.cppfilt_run.proofs.staying.underscore_behind.Goals as goal

pub loop-i-preserved : goal.loop-i-preserved
loop-i-preserved c =
    let inv = c.loop-i.invariant in
    let bytes = c.args.bytes.now in
    let i = c.loop-i.i in
    let within : i < length bytes = c.loop-i-test.true in (
      omega arith,
      omega arith,
      elim c.else-bytes-i-eq-UNDERSCORE.branch [
        | goal.else-bytes-i-eq-UNDERSCORE-via-then-bytes-i-eq-UNDERSCORE+else-begins_line w ↦
            stays-past bytes i within inv.2 (sym w.if-begins_line.ensures)
        | goal.else-bytes-i-eq-UNDERSCORE-via-else-bytes-i-eq-UNDERSCORE w ↦
            let other : eqb (get_or bytes i 0) 95 ≡ false = search (rules, tests) in
            stays-other bytes i within inv.2 other
      ],
    )
