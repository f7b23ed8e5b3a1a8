use Rattle.std.proofs.Common.{sym}
use Rattle.demangle_nodes.specs.TreeNodes.{tree_of_expression}
use Rattle.demangle_meets.proofs.Lines.{meets_said}
use Rattle.demangle_meets.proofs.Parts.{meets_part, prints_at}
use Rattle.demangle_print_inner.proofs.arrays.bound.Goals as goal

pub returns-in-DimensionNumber : goal.returns-in-DimensionNumber
returns-in-DimensionNumber g c = λ k. rw c.in-DimensionNumber.is (record {
  rest = λ b d. meets_said c.unsigned.ensures d;
})

pub returns-in-DimensionExpression : goal.returns-in-DimensionExpression
returns-in-DimensionExpression g c = λ k. rw c.in-DimensionExpression.is (record {
  rest = λ b d. meets_part (prints_at tree_of_expression (sym c.deref.ensures) c.expression.ensures) d;
})

pub returns-in-NoDimension : goal.returns-in-NoDimension
returns-in-NoDimension g c = λ k. rw c.in-NoDimension.is (record { rest = λ b d. d })
