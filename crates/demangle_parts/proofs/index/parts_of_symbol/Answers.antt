use Rattle.std.proofs.Common.{sym, ap}
use Rattle.cpp_demangle.specs.SymbolOf.{contents_of}
use Rattle.demangle_parts.specs.Entries.{entry_of}
use Rattle.demangle_parts.specs.Parts.{divided}
use Rattle.demangle_parts.proofs.IndexLaws.{entry-not-printed}
use Rattle.demangle_parts.proofs.index.parts_of_symbol.Goals as goal

pub returns-in-Ok : goal.returns-in-Ok
returns-in-Ok c = sym (ap entry_of c.in-Ok.ensures.parts)

pub returns-in_default : goal.returns-in_default
returns-in_default c =
    entry-not-printed (divided c.args.print.now (contents_of c.args.symbol.now)) c.in-Err.error
    c.in_default.not-OutOfMemory c.in-Err.ensures.parts
