use Rattle.demangler.specs.Contents.{telling_of}
use Rattle.cpp_demangle.specs.SymbolOf.{contents_of}
use Rattle.demangler.proofs.Tellings.{text_shared, text_declares, text_caused}
use Rattle.cpp_demangle.proofs.symbol.Symbol.demangle_with_options.Goals as goal

pub returns-clause-shared : goal.returns-clause-shared
returns-clause-shared g c =
    text_shared (contents_of c.args.self.now) c.args.options.now c.text.result c.args.self.now.is
    (rw c.raw_bytes.ensures at c.text.ensures)

pub returns-clause-declared : goal.returns-clause-declared
returns-clause-declared g c =
    text_declares (contents_of c.args.self.now) c.args.options.now c.text.result c.args.self.now.is
    (rw c.raw_bytes.ensures at c.text.ensures)

pub returns-clause-causes : goal.returns-clause-causes
returns-clause-causes g c =
    text_caused (telling_of c.args.options.now (contents_of c.args.self.now)) c.text.result
    (rw c.raw_bytes.ensures at c.text.ensures)
