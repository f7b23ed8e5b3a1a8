use Rattle.demangle_groups.proofs.BuilderLaws.{keeps-refused}
use Rattle.demangle_groups.proofs.builder.IndexBuilder.refuse.Goals as goal

pub returns-clause-refused : goal.returns-clause-refused
returns-clause-refused c = λ es at k.
    keeps-refused c.args.self.now c.push.new.self es c.args.position at k c.in_ok-push.ensures.items
