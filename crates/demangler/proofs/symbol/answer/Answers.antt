use Rattle.std.specs.Prelude.{string_bytes}
use Rattle.demangle_printing.specs.Outcome.{outcome}
use Rattle.demangler.specs.Answer.{answer_of}
use Rattle.demangler.proofs.Texts.{filled_sink, is_refused, is_caused}
use Rattle.demangler.proofs.symbol.answer.Goals as goal

pub returns-in-Ok-clause-outcome : goal.returns-in-Ok-clause-outcome
returns-in-Ok-clause-outcome c =
    let answer = answer_of (outcome c.args.parse.now c.args.print.now c.args.bytes.now) in
    filled_sink answer (string_bytes c.new-sink.result.text) (string_bytes c.told.new.out.text)
    c.new-sink.result.refusals c.told.new.out.refusals (string_bytes c.into_string.result) c.new-sink.ensures.text
    c.into_string.ensures c.in-Ok.ensures.outcome

pub returns-in-Err-clause-outcome : goal.returns-in-Err-clause-outcome
returns-in-Err-clause-outcome c =
    let answer = answer_of (outcome c.args.parse.now c.args.print.now c.args.bytes.now) in
    is_refused answer (string_bytes c.new-sink.result.text) (string_bytes c.told.new.out.text)
    c.new-sink.result.refusals c.told.new.out.refusals c.in-Err.fault c.in-Err.ensures.outcome

pub returns-in-Err-clause-causes : goal.returns-in-Err-clause-causes
returns-in-Err-clause-causes c =
    let answer = answer_of (outcome c.args.parse.now c.args.print.now c.args.bytes.now) in
    is_caused answer (string_bytes c.new-sink.result.text) (string_bytes c.told.new.out.text)
    c.new-sink.result.refusals c.told.new.out.refusals c.in-Err.fault c.in-Err.ensures.outcome
    c.in-Err.ensures.causes
