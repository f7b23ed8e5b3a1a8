use Rattle.std.proofs.Common.{◌∙◌, ap, sym}
use Rattle.demangle_parts_text.specs.Marks.{is_end}
use Rattle.demangle_parts_text.proofs.FrontLaws.{end-none, no-mark}
use Rattle.demangle_parts_text.proofs.front.Front.is_at_end.Goals as goal

pub returns-in-None-clause-exactly : goal.returns-in-None-clause-exactly
returns-in-None-clause-exactly c =
    let f = c.args.self in
    sym (no-mark f.marks.now c.in-None.ensures.cases) ∙ end-none f.text.now f.marks.now f.all_end f.characters

pub returns-in-Some-clause-exactly : goal.returns-in-Some-clause-exactly
returns-in-Some-clause-exactly c =
    let f = c.args.self in
    c.ends.ensures ∙ sym (ap is_end c.in-Some.ensures.cases.0) ∙ end-none f.text.now f.marks.now f.all_end f.characters
