use Rattle.cppfilt_run.proofs.SampleLaws.{summary-made}
use Rattle.cppfilt_run.proofs.sample.summary_text.Goals as goal

pub returns : goal.returns
returns c =
    summary-made c.args.options.now c.args.count c.in_ok-read.read c.in_ok-read.bytes _ _ _ _ _ c.in_ok-read.ensures
    c.new-text.ensures.items c.in_ok-push_number.ensures c.in_ok-push_number-2.ensures c.in_ok-push_number-3.ensures
    c.in_ok-push.ensures.items
