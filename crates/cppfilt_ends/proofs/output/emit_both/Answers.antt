use Rattle.cppfilt_ends.proofs.MoveLaws.{begins-first, refusal, gives-both}
use Rattle.cppfilt_ends.proofs.output.emit_both.Goals as goal

pub returns-in_err-emit : goal.returns-in_err-emit
returns-in_err-emit g c =
    refusal _ _ _ _ _ _ _ _ c.from_residual.ensures.1 (
      c.in_err-emit.ensures.0,
      begins-first _ _ c.args.pending.now.items c.args.first.now c.args.second.now c.in_err-emit.ensures.1,
    )

pub returns : goal.returns
returns g c =
    gives-both _ _ _ _ _ _ _ c.args.pending.now.items c.args.first.now c.args.second.now c.emit.new.pending.items _
    c.in_ok-emit.ensures c.emit-2.ensures
