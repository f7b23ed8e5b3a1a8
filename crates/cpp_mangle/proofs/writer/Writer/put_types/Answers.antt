use Rattle.std.proofs.Common.{sym, subst, map, take}
use Rattle.cpp_mangle.specs.Closed.{Closed}
use Rattle.cpp_mangle.specs.Plain.{known, plain_type}
use Rattle.cpp_mangle.proofs.Known.{closed_types, out_step, known_step}
use Rattle.cpp_mangle.proofs.writer.Writer.put_types.Goals as goal

pub put_type-requires : goal.put_type-requires
put_type-requires c =
    subst Closed (sym c.loop-one.invariant.known)
    (closed_types (map plain_type (take c.loop-one.one-index c.args.types.now)) (known c.args.self.now) c.requires)

pub loop-one-preserved : goal.loop-one-preserved
loop-one-preserved c = record {
  out =
      out_step plain_type c.args.types.now c.loop-one.one-index c.one-item.result c.loop-one-test.true
      (known c.args.self.now) _ _ _ _ c.one-item.result c.one-item.is c.loop-one.invariant.out
      c.loop-one.invariant.known c.in_ok-put_type.ensures.out;
  known =
      known_step plain_type c.args.types.now c.loop-one.one-index c.one-item.result c.loop-one-test.true
      (known c.args.self.now) _ _ c.one-item.result c.one-item.is c.loop-one.invariant.known
      c.in_ok-put_type.ensures.known;
}
