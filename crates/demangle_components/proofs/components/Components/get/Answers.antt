use Rattle.demangle_components.proofs.Calls.{got_numbered}
use Rattle.demangle_components.proofs.components.Components.get.Goals as goal

pub returns : goal.returns
returns g c =
    got_numbered g.T.Component.tree (λ x. x.now) c.get.result c.args.idx c.deref.result.now
    c.args.self.now.numbered.items c.args.self.now.others.items c.args.self.now.numbered_before.items _
    c.deref.ensures.value c.get.ensures.lookup.1 c.get.ensures.lookup.3
