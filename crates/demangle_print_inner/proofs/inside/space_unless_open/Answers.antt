use Rattle.std.proofs.Common.{sym, ◌∙◌}
use Rattle.std.specs.Prelude.{not}
use Rattle.demangle_printing.specs.Act.{done, space}
use Rattle.demangle_printing.specs.Reader.{chosen}
use Rattle.demangle_meets.proofs.Acts.{meets_done, meets_space}
use Rattle.demangle_meets.proofs.Parts.{meets_at}
use Rattle.demangle_print_inner.proofs.inside.space_unless_open.Goals as goal

pub returns-then-not-last_is : goal.returns-then-not-last_is
returns-then-not-last_is g c = λ p.
    meets_at (λ b. chosen (not b) (space done) done) (sym c.if-not-last_is.true ∙ c.last_is.ensures)
    (meets_space c.space.ensures meets_done)

pub returns-else-not-last_is : goal.returns-else-not-last_is
returns-else-not-last_is g c = λ p.
    meets_at (λ b. chosen (not b) (space done) done) (sym c.if-not-last_is.false ∙ c.last_is.ensures) meets_done
