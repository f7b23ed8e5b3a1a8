use Rattle.demangle_meets.proofs.Acts.{meets_block, meets_done, meets_text}
use Rattle.demangle_meets.proofs.Parts.{meets_part}
use Rattle.demangle_print_expressions.proofs.folds.binary_fold.Goals as goal

pub returns : goal.returns
returns g c =
    meets_text c.text.ensures (meets_block c.operand.ensures (meets_part (c.simple_operator_name.ensures _)
    (meets_text c.text-2.ensures (meets_part (c.simple_operator_name-2.ensures _) (meets_block c.operand-2.ensures
    (meets_text c.text-3.ensures meets_done))))))
