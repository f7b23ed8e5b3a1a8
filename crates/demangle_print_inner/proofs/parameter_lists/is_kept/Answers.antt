use Rattle.demangle_print_inner.proofs.parameter_lists.is_kept.Goals as goal

pub returns-in-Function : goal.returns-in-Function
returns-in-Function c = λ r. rw c.in-Function.is (c.is_qualified.ensures r)
