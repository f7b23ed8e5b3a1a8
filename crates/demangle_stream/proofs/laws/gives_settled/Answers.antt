use Rattle.std.proofs.Common.{[], ◌++◌, ap, append-nil, sym, ◌∙◌}
use Rattle.demangle_stream.specs.Replaced.{replaced}
use Rattle.demangle_stream.proofs.SettledLaws.{settled-given}
use Rattle.demangle_stream.proofs.laws.gives_settled.Goals as goal

pub returns : goal.returns
returns c p o a b text out0 out1 begins same-p same-o f behind =
    f.appends
    ∙ ap (λ l. out0 ++ l) (settled-given p o b text f.appended same-p same-o behind
    (ap (replaced p o) (sym (append-nil text)) ∙ sym (begins (text ++ [])) ∙ f.goes_on []))
