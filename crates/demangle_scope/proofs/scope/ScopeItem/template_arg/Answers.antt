use Rattle.demangle_scope.proofs.scope.ScopeItem.template_arg.Goals as goal

pub returns-in-Some-clause-member : goal.returns-in-Some-clause-member
returns-in-Some-clause-member c = λ r. rw c.in-Args.is (c.in-Some.ensures r)

pub returns-in-None-clause-member : goal.returns-in-None-clause-member
returns-in-None-clause-member c = λ r. rw c.in-Args.is (c.in-None.ensures r)
