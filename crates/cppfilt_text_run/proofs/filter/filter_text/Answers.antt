use Rattle.std.proofs.Common.{ap, sym, ◌∙◌}
use Rattle.demangle_stream.specs.Replaced.{replaced}
use Rattle.cppfilt_text_run.proofs.RunLaws.{stop-memory, stopped-same}
use Rattle.cppfilt_text_run.proofs.filter.filter_text.Goals as goal

pub returns-in_default : goal.returns-in_default
returns-in_default g c = stop-memory c.args.parse c.args.print c.args.limit _ _ _ _ _ _

pub filter_blocks-requires-clause-begins : goal.filter_blocks-requires-clause-begins
filter_blocks-requires-clause-begins g c more =
    let s = c.new-stream.result in
    let o = c.new-stream.ensures.options in
    c.new-stream.ensures.rest more ∙ ap (λ k. replaced k c.args.print more) (sym o.0)
    ∙ ap (λ k. replaced s.parse k more) (sym o.1)

pub returns : goal.returns
returns g c =
    let o = c.new-stream.ensures.options in
    stopped-same _ _ _ _ _ _ _ _ _ _ _ _ _ _ _ _ _ o.0 o.1 c.filter_blocks.ensures
