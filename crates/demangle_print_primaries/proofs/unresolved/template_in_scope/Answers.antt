use Rattle.demangle_meets.proofs.Acts.{meets_done}
use Rattle.demangle_meets.proofs.Parts.{meets_part}
use Rattle.demangle_print_primaries.proofs.unresolved.template_in_scope.Goals as goal

pub returns : goal.returns
returns g c =
    meets_part (rw c.scope_push-inner.ensures.pushed at c.template_param.ensures) (meets_part (rw
    c.scope_push-inner.ensures.pushed at c.template_args.ensures) meets_done)
