use Rattle.std.proofs.Common.{arith, option_map}
use Rattle.demangle_printing.specs.World.{listed}
use Rattle.demangle_meets.specs.Place.{world_of}
use Rattle.demangle_lines.specs.ScopeOf.{lent_scope}
use Rattle.demangle_lines.proofs.Doing.{each_first, each_never, each_next, each_over}
use Rattle.demangle_lines_special.specs.Choices.{each_1_steps}
use Rattle.demangle_lines_special.proofs.choices.each_1.Goals as goal

pub loop-number-init : goal.loop-number-init
loop-number-init g c = each_first each_1_steps (listed (world_of (g.B.Below.at c.args.below).refers) (option_map
    g.T.InnerNode.tree c.args.list)) (lent_scope g.T.InnerNode.tree c.args.scope)

pub loop-number-preserved : goal.loop-number-preserved
loop-number-preserved g c = each_next each_1_steps c.loop-number.number (listed (world_of (g.B.Below.at
    c.args.below).refers) (option_map g.T.InnerNode.tree c.args.list)) (g.T.InnerNode.tree c.in-Some.found)
    (lent_scope g.T.InnerNode.tree c.args.scope) (omega (
      arith,
      c.count_of-number-end.ensures,
      c.loop-number-test.true,
    )) c.in-Some.ensures c.loop-number.invariant c.every_1.ensures

pub returns-in_default : goal.returns-in_default
returns-in_default g c = each_never c.loop-number.number (listed (world_of (g.B.Below.at c.args.below).refers)
    (option_map g.T.InnerNode.tree c.args.list)) (omega (
      arith,
      c.count_of-number-end.ensures,
      c.loop-number-test.true,
    )) c.in_default.ensures

pub returns : goal.returns
returns g c = each_over each_1_steps c.loop-number.number (listed (world_of (g.B.Below.at c.args.below).refers)
    (option_map g.T.InnerNode.tree c.args.list)) (lent_scope g.T.InnerNode.tree c.args.scope) (omega (
      arith,
      c.count_of-number-end.ensures,
      c.loop-number-test.false,
    )) c.loop-number.invariant
