use Rattle.demangle_scope.proofs.Members.{got_member}
use Rattle.demangle_scope.proofs.scope.member.Goals as goal

pub returns : goal.returns
returns c =
    λ r. got_member r c.args.args.now c.args.idx c.get.result c.deref.result.now _ c.deref.ensures.value
    c.get.ensures.lookup.1 c.get.ensures.lookup.3
