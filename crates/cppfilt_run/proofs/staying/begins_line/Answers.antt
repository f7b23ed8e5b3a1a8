use Rattle.std.proofs.Common.{◌≡◌, ◌<◌, true, eqb, sym, ◌∙◌, rules, tests}
use Rattle.cppfilt_run.proofs.StayLaws.{begins-at, begins-first}
use Rattle.cppfilt_run.proofs.staying.begins_line.Goals as goal

pub returns-then-at-eq0 : goal.returns-then-at-eq0
returns-then-at-eq0 c =
    let none = c.if-at-eq0.true in
    let is : eqb c.args.at 0 ≡ true = search (rules, tests) in
    is ∙ sym (begins-first c.args.bytes.now c.args.at none)

pub returns-else-at-eq0 : goal.returns-else-at-eq0
returns-else-at-eq0 c =
    let some : 0 < c.args.at = search (rules, tests) in
    sym (begins-at c.args.bytes.now c.args.at c.requires some)
