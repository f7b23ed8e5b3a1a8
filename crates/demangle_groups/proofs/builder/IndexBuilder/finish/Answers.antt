use Rattle.std.proofs.Common.{◌∙◌, ◌++◌, map, refl, ap}
use Rattle.demangle_groups.specs.Kept.{group_at}
use Rattle.demangle_groups.proofs.BuilderLaws.{is-index}
use Rattle.demangle_groups.proofs.builder.IndexBuilder.finish.Goals as goal

pub returns : goal.returns
returns c = λ es k.
    is-index c.args.self es (record { groups = c.push_groups.new.groups; refused = c.args.self.refused }) k
    c.in_ok-push_groups.ensures.ordered
    (c.in_ok-push_groups.ensures.pushed
    ∙ ap (λ l. l ++ map group_at c.args.self.within.entries) c.in_ok-groups.ensures)
    refl
