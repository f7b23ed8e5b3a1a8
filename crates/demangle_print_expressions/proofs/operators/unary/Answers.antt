use Rattle.demangle_printing.specs.Print.{body}
use Rattle.demangle_printing.specs.Lines.{line_steps}
use Rattle.demangle_meets.proofs.Acts.{meets_block, meets_done}
use Rattle.demangle_meets.proofs.Parts.{meets_part}
use Rattle.demangle_print_primaries.proofs.Chosen.{meets_else, meets_if}
use Rattle.demangle_print_expressions.proofs.operators.unary.Goals as goal

pub returns-then-stands_behind : goal.returns-then-stands_behind
unfolding body line_steps
returns-then-stands_behind g c =
    record {
      meets = meets_if _ (c.stands_behind.ensures (g.B.Below.at c.args.below).refers) c.if-stands_behind.true
          (meets_block c.operand.ensures (meets_part c.operator_name.ensures meets_done)) meets_done;
    }

pub returns-else-stands_behind : goal.returns-else-stands_behind
unfolding body line_steps
returns-else-stands_behind g c =
    record {
      meets = meets_else _ (c.stands_behind.ensures (g.B.Below.at c.args.below).refers)
          c.if-stands_behind.false (meets_part c.operator_name-else-stands_behind.ensures (meets_block
          c.operand-else-stands_behind.ensures meets_done)) meets_done;
    }
