use Rattle.std.proofs.Common.{◌≡◌, ◌∙◌, sym}
use Rattle.std.proofs.lemmas.Result.{IfOk-weaker}
use Rattle.cpp_demangle.specs.SymbolOf.{contents_of}
use Rattle.demangle_parts.specs.Entries.{entry_in, entry_of}
use Rattle.demangle_parts.specs.Parts.{divided}
use Rattle.demangle_parts.proofs.IndexLaws.{entry-not-read, entry-read}
use Rattle.demangle_parts.proofs.index.parts_of_name.Goals as goal

pub returns-in-Ok : goal.returns-in-Ok
returns-in-Ok c =
    IfOk-weaker c.parts_of_symbol.result
    (λ parts. entry_in parts ≡ entry_of (divided c.args.print.now (contents_of c.in-Ok.symbol))) _
    (λ parts h. h ∙ sym (entry-read c.args.print.now c.args.name.now (contents_of c.in-Ok.symbol) c.in-Ok.ensures.read))
    c.parts_of_symbol.ensures

pub returns-in_default : goal.returns-in_default
returns-in_default c =
    entry-not-read c.args.print.now c.args.name.now c.in-Err.error c.in_default.not-OutOfMemory c.in-Err.ensures.read
