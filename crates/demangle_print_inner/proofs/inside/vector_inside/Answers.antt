use Rattle.std.proofs.Common.{sym}
use Rattle.demangle_nodes.specs.TreeNodes.{tree_of_expression}
use Rattle.demangle_entries.specs.TreeEntries.{tree_of_vector_type}
use Rattle.demangle_printing.specs.Print.{body}
use Rattle.demangle_printing.specs.Lines.{inside_steps}
use Rattle.demangle_meets.proofs.Acts.{meets_done, meets_text}
use Rattle.demangle_meets.proofs.Lines.{meets_said}
use Rattle.demangle_meets.proofs.Parts.{inside_at, meets_part, prints_at}
use Rattle.demangle_print_inner.proofs.inside.vector_inside.Goals as goal

pub returns-in-DimensionNumber : goal.returns-in-DimensionNumber
unfolding body inside_steps
returns-in-DimensionNumber g c =
    inside_at tree_of_vector_type c.in-DimensionNumber.is (record {
      meets = meets_text c.text.ensures
          (meets_said c.unsigned.ensures (meets_text c.text-in-DimensionNumber.ensures meets_done));
    })

pub returns-in-DimensionExpression : goal.returns-in-DimensionExpression
unfolding body inside_steps
returns-in-DimensionExpression g c =
    inside_at tree_of_vector_type c.in-DimensionExpression.is (record {
      meets = meets_text c.text-in-DimensionExpression.ensures
          (meets_part (prints_at tree_of_expression (sym c.deref.ensures) c.expression.ensures)
          (meets_text c.text-in-DimensionExpression-2.ensures meets_done));
    })
