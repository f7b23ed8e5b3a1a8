use Rattle.demangle_scope.proofs.Entries.{same_lent, same_behind, argument_here, list_here, no_arguments}
use Rattle.demangle_scope.proofs.scope.scope_template_arg.Goals as goal

pub loop-rest-init : goal.loop-rest-init
loop-rest-init c = same_lent c.as_ref-rest.result c.args.scope.now c.args.idx c.as_ref-rest.ensures.value

pub loop-rest-preserved : goal.loop-rest-preserved
loop-rest-preserved c =
    same_behind c.in-Some.entry.now (rw c.in-Some.is at c.loop-rest.invariant) c.in_default-argument.ensures

pub returns-in-Some-argument-clause-argument : goal.returns-in-Some-argument-clause-argument
returns-in-Some-argument-clause-argument c =
    argument_here c.in-Some.entry.now (rw c.in-Some.is at c.loop-rest.invariant) c.in-Some-argument.ensures

pub returns-in-Some-argument-clause-list : goal.returns-in-Some-argument-clause-list
returns-in-Some-argument-clause-list c =
    list_here c.in-Some.entry.now (rw c.in-Some.is at c.loop-rest.invariant) c.in-Some-argument.ensures

pub returns-clause-argument : goal.returns-clause-argument
returns-clause-argument c = no_arguments c.loop-rest.rest c.loop-rest.invariant c.in_default.is
