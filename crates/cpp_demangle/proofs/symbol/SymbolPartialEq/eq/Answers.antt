use Rattle.std.proofs.Common.{◌≡◌, sym, ◌∙◌, rules}
use Rattle.demangler.specs.Contents.{same_contents}
use Rattle.cpp_demangle.specs.SymbolOf.{contents_of}
use Rattle.cpp_demangle.proofs.Symbols.{symbols_alike}
use Rattle.cpp_demangle.proofs.symbol.SymbolPartialEq.eq.Goals as goal

pub returns-then-eq-2-clause-alike : goal.returns-then-eq-2-clause-alike
returns-then-eq-2-clause-alike g c =
    let same : c.eq-then-eq-2.result ≡ same_contents (contents_of c.args.self.now) (contents_of c.args.other.now) =
    search rules in
    λ e. symbols_alike (contents_of c.args.self.now) (contents_of c.args.other.now) c.args.self.now.is
    c.args.other.now.is (sym same ∙ e)
