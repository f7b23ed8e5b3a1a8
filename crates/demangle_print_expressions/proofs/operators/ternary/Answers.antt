use Rattle.demangle_printing.specs.Print.{body}
use Rattle.demangle_printing.specs.Lines.{line_steps}
use Rattle.demangle_meets.proofs.Acts.{meets_block, meets_done, meets_text}
use Rattle.demangle_meets.proofs.Parts.{meets_part}
use Rattle.demangle_print_primaries.proofs.Chosen.{meets_else, meets_if}
use Rattle.demangle_print_expressions.proofs.operators.ternary.Goals as goal

pub returns-then-is_operator : goal.returns-then-is_operator
unfolding body line_steps
returns-then-is_operator g c =
    record {
      meets = meets_if _ (c.is_operator.ensures (g.B.Below.at c.args.below).refers) c.if-is_operator.true
          (meets_block c.operand.ensures (meets_text c.text.ensures (meets_block c.operand-then-is_operator.ensures
          (meets_text c.text-then-is_operator.ensures (meets_block c.operand-then-is_operator-2.ensures meets_done)))))
          meets_done;
    }

pub returns-else-is_operator : goal.returns-else-is_operator
unfolding body line_steps
returns-else-is_operator g c =
    record {
      meets = meets_else _ (c.is_operator.ensures (g.B.Below.at c.args.below).refers) c.if-is_operator.false
          (meets_part c.operator_name.ensures (meets_text c.text-else-is_operator.ensures
          (meets_part c.expression.ensures
          (meets_text c.text-else-is_operator-2.ensures (meets_part c.expression-else-is_operator.ensures (meets_text
          c.text-else-is_operator-3.ensures (meets_part c.expression-else-is_operator-2.ensures (meets_text
          c.text-else-is_operator-4.ensures meets_done)))))))) meets_done;
    }
