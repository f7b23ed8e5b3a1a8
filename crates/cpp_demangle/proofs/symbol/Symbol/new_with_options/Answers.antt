use Rattle.std.proofs.Common.{subst}
use Rattle.demangle_read.specs.Reading.{reading, whole}
use Rattle.cpp_demangle.specs.Found.{IsMissing}
use Rattle.cpp_demangle.proofs.Symbols.{read_whole, symbol_whole, refused_whole, not_whole}
use Rattle.cpp_demangle.proofs.symbol.Symbol.new_with_options.Goals as goal

pub invariant_of-result : goal.invariant_of-result
invariant_of-result g c =
    record { is = symbol_whole c.args.options.now (rw c.raw_bytes.ensures at c.in-Ok.ensures.1) }

pub returns-in-Ok-clause-read : goal.returns-in-Ok-clause-read
returns-in-Ok-clause-read g c = read_whole (rw c.raw_bytes.ensures at c.in-Ok.ensures.1)

pub returns-in-Err-clause-read : goal.returns-in-Err-clause-read
returns-in-Err-clause-read g c =
    refused_whole c.args.options.now (g.T.RawBytes.bytes c.args.raw) c.in-Err.error
    (subst (λ bytes. IsMissing (whole (reading c.args.options.now bytes)) c.in-Err.error) c.raw_bytes.ensures
    c.in-Err.ensures)

pub returns-in-Err-clause-as_with_tail : goal.returns-in-Err-clause-as_with_tail
returns-in-Err-clause-as_with_tail g c =
    not_whole c.args.options.now (g.T.RawBytes.bytes c.args.raw) c.in-Err.error
    (subst (λ bytes. IsMissing (whole (reading c.args.options.now bytes)) c.in-Err.error) c.raw_bytes.ensures
    c.in-Err.ensures)
