use Rattle.std.specs.Prelude.{Some}
use Rattle.std.proofs.Common.{◌≡◌, ℕ, arith, ap, sym, ◌∙◌, ◌-◌, length, length-drop, map, take, drop}
use Rattle.std.proofs.lemmas.List.{take_all}
use Rattle.cpp_mangle.specs.Declarations.{class, place}
use Rattle.cpp_mangle.specs.Plain.{plain_entity}
use Rattle.cpp_mangle.proofs.Known.{longest_of, longest_all, longest_here}
use Rattle.cpp_mangle.proofs.entity.longest_front.Goals as goal

pub returns-in-Some : goal.returns-in-Some
returns-in-Some c =
    let parts = c.args.parts.now in
    let xs = map plain_entity c.args.known.now in
    let n : ℕ = c.loop-end.end - 1 in
    let e : place (class (take n parts)) xs ≡ Some c.in-Some.found = sym c.in-Some.ensures in
    let t : take (length parts - n) (drop n parts) ≡ drop n parts =
    take_all (length parts - n) (drop n parts) (omega (arith, length-drop n parts)) in
    ap (λ z. Some (c.in-Some.found, z)) t
    ∙ sym (longest_all parts xs ∙ c.loop-end.invariant ∙ longest_here parts xs c.in-Some.found n (omega arith) e)

pub returns : goal.returns
returns c =
    let parts = c.args.parts.now in
    let xs = map plain_entity c.args.known.now in
    let z : c.loop-end.end - 1 ≡ 0 = omega arith in
    sym (longest_all parts xs ∙ c.loop-end.invariant ∙ ap (longest_of parts xs) z)
