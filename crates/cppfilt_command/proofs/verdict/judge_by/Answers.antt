use Rattle.std.proofs.Common.{◌∙◌, ap₂, sym, map}
use Rattle.std.specs.Prelude.{string_bytes}
use Rattle.clap.specs.Matches.{found_of}
use Rattle.clap.specs.Simple.{app_of}
use Rattle.clap.specs.Walk.{rows_of}
use Rattle.cppfilt_command.specs.Asked.{Asks}
use Rattle.cppfilt_command.proofs.Verdicts.{asked, mistaken, refused}
use Rattle.cppfilt_command.proofs.verdict.judge_by.Goals as goal

-- the words ask for a task
pub returns-in-Ok-request_in-clause-asks : goal.returns-in-Ok-request_in-clause-asks
returns-in-Ok-request_in-clause-asks c =
    let all = map string_bytes c.args.words.now in
    let none = c.in-Ok.ensures.kinds c.requires.free in
    let same = (c.in-Ok.ensures.ok.2 c.requires.simple).0 in
    let good = c.in-Ok-request_in.ensures.good in
    asked (app_of c.args.command) all (rows_of (found_of c.in-Ok.matches)) none same good.0
    ∙ ap₂ Asks (sym good.1) (sym good.2)

-- some number is none in its range
pub returns-in-Err-Number-clause-refused : goal.returns-in-Err-Number-clause-refused
returns-in-Err-Number-clause-refused c =
    let all = map string_bytes c.args.words.now in
    let none = c.in-Ok.ensures.kinds c.requires.free in
    let same = (c.in-Ok.ensures.ok.2 c.requires.simple).0 in
    let bad = rw c.in-Err-Number.field-0-is at c.in-Err-Number.ensures.bad in
    mistaken (app_of c.args.command) all (rows_of (found_of c.in-Ok.matches)) _ none same bad
    c.number_refusal.ensures

-- the command refuses them
pub returns-clause-refused : goal.returns-clause-refused
returns-clause-refused c =
    let all = map string_bytes c.args.words.now in
    refused (app_of c.args.command) (c.requires.leaves, c.requires.leaf) all c.in-Err.error _
    (c.in-Err.ensures.kinds c.requires.free) c.refusal_of.ensures
