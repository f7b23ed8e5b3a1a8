use Rattle.std.proofs.Common.{◌≡◌, sym, true, false, get_or}
use Rattle.cpp_mangle.specs.Declarations.{same_type}
use Rattle.cpp_mangle.specs.Plain.{plain_entity}
use Rattle.cpp_mangle.proofs.Known.{none_more, found_at}
use Rattle.cpp_mangle.proofs.entity.place.Goals as goal

pub returns-then-is_same : goal.returns-then-is_same
returns-then-is_same c =
    let d = c.index-known-i.result in
    let e : same_type (plain_entity c.args.entity.now) (plain_entity (get_or c.args.known.now c.loop-i.i d)) ≡ true = cc in
    sym (found_at plain_entity (plain_entity c.args.entity.now) c.args.known.now c.loop-i.i d c.loop-i-test.true
    c.loop-i.invariant e)

pub loop-i-preserved : goal.loop-i-preserved
loop-i-preserved c =
    let d = c.index-known-i.result in
    let e : same_type (plain_entity c.args.entity.now) (plain_entity (get_or c.args.known.now c.loop-i.i d)) ≡ false = cc in
    none_more plain_entity (plain_entity c.args.entity.now) c.args.known.now c.loop-i.i d c.loop-i-test.true
    c.loop-i.invariant e
