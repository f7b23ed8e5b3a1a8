use Rattle.std.proofs.Common.{◌++◌, [], ◌∙◌}
use Rattle.cppfilt_ends.proofs.MoveLaws.{refusal, cause-then}
use Rattle.cppfilt_run.specs.Owed.{ahead}
use Rattle.cppfilt_run.proofs.OwedLaws.{moves-flushed, begins-flushed}
use Rattle.cppfilt_run.proofs.lines.LineFilter.take_block.Goals as goal

pub returns-in_err-flush-clause-gives : goal.returns-in_err-flush-clause-gives
returns-in_err-flush-clause-gives g c more =
    let o = c.args.options.now in
    let this = c.args.self.now in
    let then = c.take_lines.new.self in
    let taken = c.in_ok-take_lines.ensures.gives in
    let refused = c.in_err-flush.ensures.gives in
    refusal _ _ _ _ _ _ _ _ c.from_residual-in_err-flush.ensures.1 (
      cause-then _ _ _ _ (taken []).0 refused.0,
      begins-flushed o _ _ _ (λ more. ahead o this.pending.items this.held.items (c.args.block.now ++ more))
          then.pending.items then.held.items (λ more. (taken more).1) refused.1 more,
    )

pub returns-clause-gives : goal.returns-clause-gives
returns-clause-gives g c more =
    let o = c.args.options.now in
    let this = c.args.self.now in
    let then = c.take_lines.new.self in
    let taken = c.in_ok-take_lines.ensures.gives in
    let done = c.in_ok-flush.ensures.gives in (
      done.0 ∙ (taken []).0,
      moves-flushed o _ _ _ (λ more. ahead o this.pending.items this.held.items (c.args.block.now ++ more))
          then.pending.items c.flush.new.pending.items then.held.items (λ more. (taken more).1) done.1
          c.in_ok-flush.ensures.gathered more,
    )
