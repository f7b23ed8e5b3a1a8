use Rattle.demangle_context.proofs.TextSteps.{fails_for}
use Rattle.demangle_context.proofs.context.Context.fail_reference.Goals as goal

pub returns : goal.returns
returns g c f e = fails_for (c.reference_fault_in.ensures f e) c.fail.ensures
