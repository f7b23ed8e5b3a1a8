use Rattle.std.proofs.Common.{◌≡◌, ◌++◌, [], ap, subst}
use Rattle.cppfilt_ends.proofs.MoveLaws.{gives-more, gives-then}
use Rattle.cppfilt_ends.specs.Moves.{Gives}
use Rattle.demangle_stream.specs.Replaced.{rest}
use Rattle.cppfilt_text_run.proofs.filter.take_block.Goals as goal

pub returns-clause-gives : goal.returns-clause-gives
returns-clause-gives g c more =
    let whole = rest c.args.stream.now (c.args.block.now ++ more) in
    let due = rest c.take_pieces.new.stream more in
    let none : c.args.pending.now.items ++ whole ≡ whole = ap (λ l. l ++ whole) c.requires in
    subst (λ l. Gives (g.W.Sink.written c.args.output.now) (g.W.Sink.written c.flush.new.output)
    (g.W.Sink.faults c.args.output.now) (g.W.Sink.faults c.flush.new.output) c.flush.result l due) none
    (gives-then _ _ _ _ _ _ _ (c.args.pending.now.items ++ whole) (c.take_pieces.new.pending.items ++ due) due
    (c.in_ok-take_pieces.ensures.gives more) (gives-more _ _ _ _ _ c.take_pieces.new.pending.items [] due c.flush.ensures.gives))
