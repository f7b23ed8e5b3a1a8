use Rattle.demangle_components.proofs.Calls.{got_other}
use Rattle.demangle_components.proofs.components.Components.get_other.Goals as goal

pub returns : goal.returns
returns g c =
    got_other g.T.Component.tree (λ x. x.now) c.get.result c.args.idx c.deref.result.now
    c.args.self.now.numbered.items c.args.self.now.others.items c.args.self.now.numbered_before.items _
    c.deref.ensures.value c.args.self.now.paired c.args.self.now.rising c.get.ensures.lookup.1 c.get.ensures.lookup.3
