use Rattle.std.proofs.Common.{◌+◌, ◌-◌, ◌<◌, arith, length, rules, tests}
use Rattle.cppfilt_run.proofs.StayLaws.{stays-chunk}
use Rattle.cppfilt_run.proofs.staying.staying_chunks.Goals as goal

pub loop-at-preserved : goal.loop-at-preserved
loop-at-preserved c =
    let inv = c.loop-at.invariant in
    let at = c.loop-at.at in
    let room = c.loop-at-test.true in
    let within : at + 32 < length c.args.bytes.now = omega arith in (
      within,
      stays-chunk c.args.bytes.now at (at + 32 + 1 - at) (omega arith) within inv.1
          (search (rules, tests)),
    )
