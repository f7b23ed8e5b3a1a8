use Rattle.std.specs.Prelude.{Some, None}
use Rattle.std.proofs.Common.{◌≡◌, ap, sym, ◌∙◌, map, ◌++◌, ◌∷◌, []}
use Rattle.std.proofs.lemmas.List.{map-append}
use Rattle.cpp_mangle.specs.Declarations.{of, place}
use Rattle.cpp_mangle.specs.Plain.{known, plain_entity, plain_type, plain_modifier}
use Rattle.cpp_mangle.proofs.Known.{again, added, whenever}
use Rattle.cpp_mangle.proofs.writer.Writer.+types.Goals as goal

pub put_modified-returns-in-Some-clause-known : goal.put_modified-returns-in-Some-clause-known
put_modified-returns-in-Some-clause-known t c =
    let x = of (plain_modifier c.args.modifier) (plain_type c.args.inner.now) in
    let e : place x (known c.args.self.now) ≡ Some c.in-Some.place =
    rw (← c.deref.ensures.value) (sym c.in-Some.ensures) in
    whenever c.put_reference.result _ (sym (again x (known c.args.self.now) c.in-Some.place c.requires e))

pub put_modified-returns-in_ok-push-in-None-2-clause-known : goal.put_modified-returns-in_ok-push-in-None-2-clause-known
put_modified-returns-in_ok-push-in-None-2-clause-known t c =
    let m = plain_modifier c.args.modifier in
    let u = plain_type c.args.inner.now in
    let e : place (of m u) (known c.args.self.now) ≡ None = rw (← c.deref.ensures.value) (sym c.in-None.ensures) in
    ap (map plain_entity) c.in_ok-push-in-None-2.ensures.items
    ∙ map-append plain_entity c.put_type.new.self.known.items _
    ∙ ap (λ z. z ++ of m u ∷ []) c.in_ok-put_type-in-None.ensures.known
    ∙ sym (added m u (known c.args.self.now) e)
