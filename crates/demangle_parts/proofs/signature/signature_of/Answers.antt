use Rattle.std.proofs.Common.{◌∙◌, sym}
use Rattle.demangle_table.specs.TableOf.{table_of}
use Rattle.demangle_parts.proofs.SignatureLaws.{of-mangled}
use Rattle.demangle_parts.proofs.signature.signature_of.Goals as goal

pub returns-in-Encoding : goal.returns-in-Encoding
returns-in-Encoding c =
    c.of_encoding.ensures
    ∙ sym (of-mangled (table_of c.args.subs.now) c.args.name.now c.in-Encoding.encoding c.in-Encoding.field-1
    c.in-Encoding.is)
