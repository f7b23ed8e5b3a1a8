use Rattle.std.proofs.Common.{false, sym, ◌∙◌}
use Rattle.demangle_printing.specs.State.{object}
use Rattle.demangle_printing.specs.Parameters.{explicit_object}
use Rattle.demangle_meets.specs.Place.{world_of}
use Rattle.demangle_meets.proofs.Acts.{meets_done, meets_set, meets_text}
use Rattle.demangle_meets.proofs.Parts.{meets_at}
use Rattle.demangle_print_inner.proofs.parameter_lists.explicit_object.Goals as goal

pub returns-then-is_on : goal.returns-then-is_on
returns-then-is_on g c = λ p.
    meets_at (λ b. explicit_object (world_of p.refers) b) (sym c.if-is_on.true ∙ c.is_on.ensures)
    (meets_text c.text.ensures (meets_set {i = object} {v = false} c.turn.ensures meets_done))

pub returns-else-is_on : goal.returns-else-is_on
returns-else-is_on g c = λ p.
    meets_at (λ b. explicit_object (world_of p.refers) b) (sym c.if-is_on.false ∙ c.is_on.ensures) meets_done
