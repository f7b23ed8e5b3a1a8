use Rattle.cpp_demangle.specs.SymbolOf.{contents_of}
use Rattle.demangler.proofs.Tellings.{tells_shared}
use Rattle.cpp_demangle.proofs.symbol.Symbol.structured_demangle.Goals as goal

pub returns-clause-told : goal.returns-clause-told
returns-clause-told g c = rw c.raw_bytes.ensures at c.tell.ensures

pub returns-clause-shared : goal.returns-clause-shared
returns-clause-shared g c =
    tells_shared (contents_of c.args.self.now) c.args.options.now c.args.self.now.is
    (rw c.raw_bytes.ensures at c.tell.ensures)
