use Rattle.std.specs.Prelude.{string_bytes}
use Rattle.std.proofs.Common.{ap, ◌∙◌}
use Rattle.demangle_printing.specs.Outcome.{outcome}
use Rattle.demangler.specs.Answer.{answer_of}
use Rattle.demangler.proofs.OneNames.{name_has_text}
use Rattle.demangler.proofs.Texts.{filled_text, filled_nothing, is_caused}
use Rattle.demangler.proofs.demangler.Demangler.demangle.Goals as goal

pub returns-in-Ok-clause-outcome : goal.returns-in-Ok-clause-outcome
returns-in-Ok-clause-outcome c =
    let answer = answer_of (outcome c.args.parse.now c.args.print.now c.args.bytes.now) in
    let begun = c.behind-listener.result in
    let told = c.structured_demangle-answer.new.out in
    filled_text answer (string_bytes begun.text) (string_bytes told.text) begun.refusals told.refusals
    (string_bytes c.into_text.result)
    (c.behind-listener.ensures ∙ ap string_bytes c.replace.ensures.value ∙ c.clear.ensures.bytes) c.into_text.ensures
    c.in-Ok.ensures.outcome

pub returns-in-Ok-clause-named : goal.returns-in-Ok-clause-named
returns-in-Ok-clause-named c =
    let answer = answer_of (outcome c.args.parse.now c.args.print.now c.args.bytes.now) in
    let begun = c.behind-listener.result in
    let told = c.structured_demangle-answer.new.out in
    name_has_text c.args.parse.now c.args.print.now c.args.bytes.now (string_bytes c.into_text.result)
    (filled_text answer (string_bytes begun.text) (string_bytes told.text) begun.refusals told.refusals
    (string_bytes c.into_text.result)
    (c.behind-listener.ensures ∙ ap string_bytes c.replace.ensures.value ∙ c.clear.ensures.bytes) c.into_text.ensures
    c.in-Ok.ensures.outcome)

pub returns-in-Err-clause-outcome : goal.returns-in-Err-clause-outcome
returns-in-Err-clause-outcome c =
    let answer = answer_of (outcome c.args.parse.now c.args.print.now c.args.bytes.now) in
    let begun = c.behind-listener.result in
    let told = c.structured_demangle-answer.new.out in
    filled_nothing answer (string_bytes begun.text) (string_bytes told.text) begun.refusals told.refusals
    c.in-Err.fault (string_bytes c.clear-in-Err.new.self) c.clear-in-Err.ensures.bytes c.in-Err.ensures.outcome

pub returns-in-Err-clause-causes : goal.returns-in-Err-clause-causes
returns-in-Err-clause-causes c =
    let answer = answer_of (outcome c.args.parse.now c.args.print.now c.args.bytes.now) in
    let begun = c.behind-listener.result in
    let told = c.structured_demangle-answer.new.out in
    is_caused answer (string_bytes begun.text) (string_bytes told.text) begun.refusals told.refusals c.in-Err.fault
    c.in-Err.ensures.outcome c.in-Err.ensures.causes
