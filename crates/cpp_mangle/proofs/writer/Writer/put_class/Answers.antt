use Rattle.std.specs.Prelude.{Some}
use Rattle.std.proofs.Common.{◌≡◌, sym}
use Rattle.cpp_mangle.specs.Declarations.{class, place}
use Rattle.cpp_mangle.specs.Plain.{known}
use Rattle.cpp_mangle.proofs.Known.{again, whenever}
use Rattle.cpp_mangle.proofs.writer.Writer.put_class.Goals as goal

pub returns-in-Some-clause-known : goal.returns-in-Some-clause-known
returns-in-Some-clause-known c =
    let e : place (class c.args.path.now) (known c.args.self.now) ≡ Some c.in-Some.place =
    rw (← c.deref.ensures.value, ← c.parts-parts.ensures.parts) (sym c.in-Some.ensures) in
    whenever c.put_reference.result _ (sym (again (class c.args.path.now) (known c.args.self.now) c.in-Some.place c.requires e))
