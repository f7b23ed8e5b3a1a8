use Rattle.demangle_printing.specs.Print.{body}
use Rattle.demangle_printing.specs.Lines.{line_steps}
use Rattle.demangle_meets.proofs.Acts.{meets_done}
use Rattle.demangle_meets.proofs.Around.{meets_with_params}
use Rattle.demangle_meets.proofs.Parts.{meets_part}
use Rattle.demangle_print_primaries.proofs.literals.external.Goals as goal

pub returns : goal.returns
unfolding body line_steps
returns g c =
    record {
      meets = meets_with_params c.turn.ensures (meets_part c.mangled_name.ensures meets_done) (rw
          c.is_on-before.ensures at c.turn-2.ensures) meets_done;
    }
