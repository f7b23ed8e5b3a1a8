use Rattle.demangler.proofs.OneNames.{name_named, name_shared, name_declares}
use Rattle.demangler.proofs.symbol.demangle_symbol.Goals as goal

pub returns-clause-named : goal.returns-clause-named
returns-clause-named c =
    name_named c.args.parse.now c.args.print.now c.args.bytes.now c.answer.result c.answer.ensures.outcome

pub returns-clause-shared : goal.returns-clause-shared
returns-clause-shared c =
    name_shared c.args.parse.now c.args.print.now c.args.bytes.now c.answer.result c.answer.ensures.outcome

pub returns-clause-declared : goal.returns-clause-declared
returns-clause-declared c =
    name_declares c.args.parse.now c.args.print.now c.args.bytes.now c.answer.result c.answer.ensures.outcome
