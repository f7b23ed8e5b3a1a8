use Rattle.demangle_context.specs.Errors.{reference_fault}
use Rattle.demangle_scope.specs.ScopeOf.{scope_of}
use Rattle.demangle_print_parts.proofs.Scopes.{argument_found, argument_missing}
use Rattle.demangle_print_parts.proofs.arguments.argument.Goals as goal

pub returns-in-Ok : goal.returns-in-Ok
returns-in-Ok g c =
    argument_found (scope_of c.args.scope) c.args.idx _
    (rw c.in-Ok.is at (c.scope_template_arg.ensures.argument (g.B.Below.at c.args.below).refers)) c.template_arg.ensures

pub returns-in-Err : goal.returns-in-Err
returns-in-Err g c =
    argument_missing (scope_of c.args.scope) c.args.idx (reference_fault c.in-Err.error)
    (rw c.in-Err.is at (c.scope_template_arg.ensures.argument (g.B.Below.at c.args.below).refers))
    c.fail_reference.ensures
