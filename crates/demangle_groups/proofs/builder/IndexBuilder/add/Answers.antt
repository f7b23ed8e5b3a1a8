use Rattle.demangle_groups.proofs.BuilderLaws.{keeps-within, keeps-without, on-err, on-err-weaker, on-ok}
use Rattle.demangle_groups.proofs.BuilderLaws.{still-within, still-without}
use Rattle.demangle_groups.proofs.builder.IndexBuilder.add.Goals as goal

pub returns-in_ok-push-in-None-clause-added : goal.returns-in_ok-push-in-None-clause-added
returns-in_ok-push-in-None-clause-added c = λ es at k.
    rw c.in-None.is (keeps-without c.args.self.now c.push.new.self es c.args.position at k
    c.in_ok-push-in-None.ensures.items)

pub returns-in-Some-clause-added : goal.returns-in-Some-clause-added
returns-in-Some-clause-added c = λ es at k.
    rw c.in-Some.is (on-ok c.add_within.result _ _
    (keeps-within c.args.self.now c.add_within.new.within c.in-Some.scope.now es c.args.position at k)
    c.add_within.ensures.added)

pub returns-in_err-push-in-None-clause-lacked : goal.returns-in_err-push-in-None-clause-lacked
returns-in_err-push-in-None-clause-lacked c = λ es k.
    on-err c.from_residual.result _ (still-without c.args.self.now c.push.new.self es k
    c.in_err-push-in-None.ensures.items)

pub returns-in-Some-clause-lacked : goal.returns-in-Some-clause-lacked
returns-in-Some-clause-lacked c = λ es k.
    on-err-weaker c.add_within.result _ _ (still-within c.args.self.now c.add_within.new.within es k)
    c.add_within.ensures.lacked
