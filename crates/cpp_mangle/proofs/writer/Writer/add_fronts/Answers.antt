use Rattle.std.proofs.Common.{arith, ap, sym, ◌∙◌, [], ◌+◌, take, rules}
use Rattle.cpp_mangle.specs.Declarations.{class, with}
use Rattle.cpp_mangle.specs.Plain.{known}
use Rattle.cpp_mangle.proofs.Known.{front_more}
use Rattle.cpp_mangle.proofs.writer.Writer.add_fronts.Goals as goal

pub loop-before-preserved : goal.loop-before-preserved
loop-before-preserved c = record {
  out = search rules;
  known =
      c.in_ok-add.ensures.known
      ∙ ap (with (class (take (c.loop-before.before + 1) c.args.parts.now))) c.loop-before.invariant.known
      ∙ sym (front_more c.args.parts.now c.loop-before.before [] (known c.args.self.now) (omega arith));
}
