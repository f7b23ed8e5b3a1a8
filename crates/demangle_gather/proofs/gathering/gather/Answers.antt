use Rattle.std.proofs.Common.{ap, ◌∙◌, take}
use Rattle.demangle_printing.specs.Outcome.{outcome}
use Rattle.demangler.specs.Answer.{answer_of}
use Rattle.demangle_gather.proofs.GatheredLaws.{gathered-text, gathered-nothing}
use Rattle.demangle_gather.proofs.gathering.gather.Goals as goal

-- the text stands behind what was gathered
pub returns-in-Ok : goal.returns-in-Ok
returns-in-Ok c =
    let answer = answer_of (outcome c.args.parse.now c.args.print.now c.args.name.now) in
    let begun = c.behind-listener.result in
    let told = c.structured_demangle-answer.new.out in
    gathered-text answer c.args.gathered.now.items begun.gathered.items told.gathered.items _ begun.refusals
    told.refusals (c.behind-listener.ensures ∙ ap (λ v. v.items) c.replace.ensures.value) c.into_gathered.ensures
    c.in-Ok.ensures.outcome

-- nothing does
pub returns-in-Err : goal.returns-in-Err
returns-in-Err c =
    let answer = answer_of (outcome c.args.parse.now c.args.print.now c.args.name.now) in
    let begun = c.behind-listener.result in
    let told = c.structured_demangle-answer.new.out in
    gathered-nothing answer c.args.gathered.now.items begun.gathered.items told.gathered.items _ _ begun.refusals
    told.refusals c.in-Err.fault (c.behind-listener.ensures ∙ ap (λ v. v.items) c.replace.ensures.value)
    c.into_gathered.ensures c.structured_demangle-answer.ensures.lengthens c.in-Err.ensures.outcome
    (c.truncate.ensures.items
    ∙ ap (λ n. take n c.into_gathered.result.items) (c.len-before.ensures ∙ c.args.gathered.now.ok.0))
