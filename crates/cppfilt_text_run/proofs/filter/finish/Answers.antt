use Rattle.std.proofs.Common.{◌≡◌, [], ◌++◌, ap, ◌∙◌}
use Rattle.demangle_stream.specs.Replaced.{rest}
use Rattle.cppfilt_text_run.proofs.filter.finish.Goals as goal

pub returns-in-Ok : goal.returns-in-Ok
returns-in-Ok g c =
    let is : c.finish.new.out.items ≡ rest c.args.stream.now [] =
    c.in-Ok.ensures.appended ∙ ap (λ l. l ++ rest c.args.stream.now []) c.requires in
    rw (← is) c.flush.ensures.gives
