use Rattle.std.specs.Prelude.{◌==◌, length, not}
use Rattle.demangle_grammar.specs.Fits.{AllOf}
use Rattle.demangle_cells.proofs.bytes.has_no_reference.Given as goal

abbrev pub invariant-loop-rest : goal.invariant-loop-rest
invariant-loop-rest l = AllOf (λ b. not (b == 83)) l.rest → AllOf (λ b. not (b == 83)) l.fn.bytes

abbrev pub decreases-loop-rest : goal.decreases-loop-rest
decreases-loop-rest l = length l.rest
