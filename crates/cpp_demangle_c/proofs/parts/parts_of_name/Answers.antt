use Rattle.std.proofs.Common.{ap, ◌∙◌}
use Rattle.cpp_demangle.specs.SymbolOf.{contents_of}
use Rattle.demangle_parts.specs.Answers.{parts_in}
use Rattle.demangle_parts.specs.Parts.{divided}
use Rattle.cpp_demangle_c.specs.Divided.{parts_answer, parts_from}
use Rattle.cpp_demangle_c.proofs.PartsLaws.{answer-not-printed, answer-read, text-not-read, text-read, text-refused}
use Rattle.cpp_demangle_c.proofs.parts.parts_of_name.Goals as goal

pub returns-in-Ok-parts_of-clause-answer : goal.returns-in-Ok-parts_of-clause-answer
returns-in-Ok-parts_of-clause-answer c =
    answer-read c.args.options.now c.args.name.now c.parse.result c.print.result (contents_of c.in-Ok.symbol)
    c.parse.ensures c.print.ensures c.in-Ok.ensures.read
    ∙ ap parts_from c.in-Ok-parts_of.ensures.parts

pub returns-in-Ok-parts_of-clause-text : goal.returns-in-Ok-parts_of-clause-text
returns-in-Ok-parts_of-clause-text c =
    text-read c.args.options.now c.args.name.now c.parse.result c.print.result (contents_of c.in-Ok.symbol)
    (parts_in c.in-Ok-parts_of.parts) c.parse.ensures c.print.ensures c.in-Ok.ensures.read
    c.in-Ok-parts_of.ensures.parts c.in-Ok-parts_of.ensures.joins

pub returns-in-Ok-clause-answer : goal.returns-in-Ok-clause-answer
returns-in-Ok-clause-answer c =
    let read = answer-read c.args.options.now c.args.name.now c.parse.result c.print.result
    (contents_of c.in-Ok.symbol) c.parse.ensures c.print.ensures c.in-Ok.ensures.read in
    answer-not-printed (parts_answer c.args.options.now c.args.name.now)
    (divided c.print.result (contents_of c.in-Ok.symbol)) c.in-Err-parts_of.error c.print_fault.result read
    c.print_fault.ensures c.in-Err-parts_of.ensures.parts

pub returns-in-Ok-clause-text : goal.returns-in-Ok-clause-text
returns-in-Ok-clause-text c =
    text-refused c.args.options.now c.args.name.now c.print_fault.result (returns-in-Ok-clause-answer c)

pub returns-clause-text : goal.returns-clause-text
returns-clause-text c =
    text-not-read c.args.options.now c.args.name.now c.parse.result c.in-Err.error c.read_fault.result c.parse.ensures
    c.read_fault.ensures c.in-Err.ensures.read
