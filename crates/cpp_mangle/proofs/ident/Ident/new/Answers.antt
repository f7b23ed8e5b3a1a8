use Rattle.std.proofs.Common.{◌≡◌, true}
use Rattle.cpp_mangle.specs.Declarations.{is_ident}
use Rattle.cpp_mangle.proofs.Bytes.{ident_is_text}
use Rattle.cpp_mangle.proofs.ident.Ident.new.Goals as goal

pub returns-in-Err-clause-refused : goal.returns-in-Err-clause-refused
returns-in-Err-clause-refused c =
    let e : is_ident c.args.bytes.now ≡ true = cc in
    absurd (c.in-Err.ensures.cases.0 (ident_is_text c.args.bytes.now e))
