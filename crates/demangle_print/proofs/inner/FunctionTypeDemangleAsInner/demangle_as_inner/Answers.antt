use Rattle.demangle_print.proofs.Begun.{demangled_inner}
use Rattle.demangle_print.proofs.inner.FunctionTypeDemangleAsInner.demangle_as_inner.Goals as goal

pub returns : goal.returns
returns g c = demangled_inner c.begin-printer.ensures c.inner.ensures c.answer.ensures
