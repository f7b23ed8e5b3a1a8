use Rattle.std.proofs.Common.{◌+◌, ◌-◌, ◌≤◌, length, sym, arith}
use Rattle.cppfilt_run.proofs.ChunkLaws.{clear-more}
use Rattle.cppfilt_run.proofs.cutting.clear_chunks.Goals as goal

-- one more chunk has no line feed
pub loop-clear-preserved : goal.loop-clear-preserved
loop-clear-preserved c =
    let inv = c.loop-clear.invariant in
    let room = c.loop-clear-test.true in
    let within : c.loop-clear.clear + 32 ≤ length c.args.bytes.now = omega arith in (
      within,
      clear-more c.args.bytes.now c.loop-clear.clear 32 (c.loop-clear.clear + 32 - c.loop-clear.clear) (omega arith)
          within inv.1 (sym c.if-not-has_line_feed.ensures),
    )
