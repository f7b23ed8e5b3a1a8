use Rattle.std.proofs.Common.{◌≡◌, ◌++◌, ap, append_assoc, refl, sym, ◌∙◌}
use Rattle.cppfilt_ends.proofs.MoveLaws.{begins-none, gives-more}
use Rattle.demangle_stream.specs.Replaced.{rest}
use Rattle.demangle_stream.proofs.StreamLaws.{ok-always}
use Rattle.cppfilt_text_run.proofs.filter.take_piece.Goals as goal

pub returns-in-Ok-clause-gives : goal.returns-in-Ok-clause-gives
returns-in-Ok-clause-gives g c more =
    let before = c.args.pending.now.items in
    let fed = c.in-Ok.ensures.fed in
    let due = rest c.feed.new.self more in
    let whole : before ++ rest c.args.stream.now (c.args.piece.now ++ more) ≡ c.feed.new.out.items ++ due =
    ap (λ l. before ++ l) (fed.goes_on more) ∙ sym (append_assoc before fed.appended due)
    ∙ ap (λ l. l ++ due) (sym fed.appends) in
    rw whole (gives-more _ _ _ _ _ _ _ due c.relieve.ensures)

pub returns-in-Ok-clause-behind : goal.returns-in-Ok-clause-behind
returns-in-Ok-clause-behind g c = ok-always c.relieve.result _ c.in-Ok.ensures.behind

pub returns-in-Ok-clause-options : goal.returns-in-Ok-clause-options
returns-in-Ok-clause-options g c = ok-always c.relieve.result _ c.feed.ensures.options

pub returns-in-Err-OutOfMemory-clause-gives : goal.returns-in-Err-OutOfMemory-clause-gives
returns-in-Err-OutOfMemory-clause-gives g c more = (refl, begins-none _ _)
