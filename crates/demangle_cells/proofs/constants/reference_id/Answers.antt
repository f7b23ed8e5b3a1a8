use Rattle.std.proofs.Common.{refl, ap, ◌∙◌, sym, ◌+◌, arith}
use Rattle.demangle_grammar.specs.Tree.{reference}
use Rattle.demangle_cells.specs.Fixed.{first_reference, first_other}
use Rattle.demangle_cells.specs.View.{which_of}
use Rattle.demangle_cells.proofs.Blocks.{reference_is, other_is}
use Rattle.demangle_cells.proofs.constants.reference_id.Goals as goal

pub returns-then-numbered : goal.returns-then-numbered
returns-then-numbered c =
    λ F v h. reference_is F v c.args.number (first_reference + c.args.number) (omega (arith, c.if-number.false)) refl h
    ∙ ap (λ b. reference (which_of b) c.args.number) (sym c.if-numbered.true)

pub returns-else-numbered : goal.returns-else-numbered
returns-else-numbered c =
    λ F v h. other_is F v c.args.number (first_other + c.args.number) refl h
    ∙ ap (λ b. reference (which_of b) c.args.number) (sym c.if-numbered.false)
