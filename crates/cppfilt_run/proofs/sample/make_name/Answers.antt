use Rattle.std.proofs.lemmas.Result.{on_ok_weaker}
use Rattle.cppfilt_run.proofs.SampleLaws.{name-made}
use Rattle.cppfilt_run.proofs.sample.make_name.Goals as goal

pub returns : goal.returns
returns c =
    on_ok_weaker c.push_types.result
    (λ e. name-made c.args.i _ _ _ _ _ c.clear.ensures.items c.in_ok-extend_from_slice.ensures.items
    c.in_ok-push_parts.ensures c.in_ok-extend_from_slice-2.ensures.items e) c.push_types.ensures
