use Rattle.std.proofs.Common.{rules}
use Rattle.demangle_components.proofs.Equality.{tables_equal}
use Rattle.demangle_components.proofs.components.ComponentsPartialEq.eq.Goals as goal

pub returns-then-eq : goal.returns-then-eq
returns-then-eq g c =
    let a = c.args.self.now in
    let b = c.args.other.now in
    let equal =
    tables_equal g.T.Component.tree g.T.PartialEq.eq g.met.T.Component.compares
    a.numbered.items a.others.items b.numbered.items b.others.items
    a.numbered_before.items b.numbered_before.items a.paired b.paired in
    search rules

pub returns-else-eq : goal.returns-else-eq
returns-else-eq g c =
    let a = c.args.self.now in
    let b = c.args.other.now in
    let equal =
    tables_equal g.T.Component.tree g.T.PartialEq.eq g.met.T.Component.compares
    a.numbered.items a.others.items b.numbered.items b.others.items
    a.numbered_before.items b.numbered_before.items a.paired b.paired in
    search rules
