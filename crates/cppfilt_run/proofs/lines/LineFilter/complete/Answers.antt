use Rattle.std.proofs.Common.{◌≡◌, ◌∙◌, length, rules}
use Rattle.cppfilt_ends.proofs.MoveLaws.{refusal, refusal-none}
use Rattle.cppfilt_run.proofs.OwedLaws.{gives-completed, moves-completed, begins-completed, nil-from_length}
use Rattle.cppfilt_run.proofs.lines.LineFilter.complete.Goals as goal

-- nothing is held
pub returns-then-is_empty-clause-gives : goal.returns-then-is_empty-clause-gives
returns-then-is_empty-clause-gives g c more =
    let this = c.args.self.now in
    let none : length c.args.self.now.held.items ≡ 0 = search rules in
    gives-completed c.args.options.now _ _ _ _ _ this.pending.items c.emit_line.new.pending.items this.held.items
    c.args.line.now (nil-from_length this.held.items none) c.requires.ended c.emit_line.ensures more

-- nothing was written
pub returns-in_err-extend_from_slice-clause-gives : goal.returns-in_err-extend_from_slice-clause-gives
returns-in_err-extend_from_slice-clause-gives g c more = refusal-none _ _ _ _ _ c.from_residual.ensures.1

pub returns-in_err-emit_line-clause-gives : goal.returns-in_err-emit_line-clause-gives
returns-in_err-emit_line-clause-gives g c more =
    let this = c.args.self.now in
    let refused = c.in_err-emit_line.ensures in
    let whole = c.as_slice.ensures.value ∙ c.in_ok-extend_from_slice.ensures.items in
    refusal _ _ _ _ _ _ _ _ c.from_residual-in_err-emit_line.ensures.1 (
      refused.0,
      begins-completed c.args.options.now _ _ this.pending.items this.held.items c.args.line.now c.requires.free
          c.requires.ended (rw (← whole) refused.1) more,
    )

pub returns-clause-gives : goal.returns-clause-gives
returns-clause-gives g c more =
    let this = c.args.self.now in
    let done = c.in_ok-emit_line.ensures in
    let whole = c.as_slice.ensures.value ∙ c.in_ok-extend_from_slice.ensures.items in (
      done.0,
      moves-completed c.args.options.now _ _ this.pending.items c.emit_line-2.new.pending.items this.held.items
          c.args.line.now _ c.requires.free c.requires.ended (rw (← whole) done.1) c.clear.ensures.items more,
    )
