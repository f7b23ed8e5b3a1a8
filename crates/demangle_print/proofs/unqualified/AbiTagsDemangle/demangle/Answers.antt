use Rattle.demangle_print.proofs.Begun.{demangled}
use Rattle.demangle_print.proofs.unqualified.AbiTagsDemangle.demangle.Goals as goal

pub returns : goal.returns
returns g c = demangled c.begin-printer.ensures (c.abi_tags.ensures _) c.answer.ensures
