use Rattle.std.proofs.Common.{sym, ◌∙◌}
use Rattle.demangle_scope.specs.ScopeOf.{top_of}
use Rattle.demangle_scope.proofs.Entries.{passes_on, decides, decides_forward, meant_is}
use Rattle.demangle_scope.proofs.scope.ArgScopeStack.argument.Goals as goal

pub returns-in_default : goal.returns-in_default
returns-in_default c = passes_on (top_of c.args.self.now) c.args.idx c.in_default.ensures.member

pub returns-then-is_forward : goal.returns-then-is_forward
returns-then-is_forward c =
    decides_forward (top_of c.args.self.now) c.args.idx c.in-Some.found (meant_is _ _ c.in-Some.ensures.list)
    c.in-Some.ensures.member (sym c.is_forward.ensures ∙ c.if-is_forward.true)

pub returns : goal.returns
returns c =
    decides (top_of c.args.self.now) c.args.idx c.in-Some.found (meant_is _ _ c.in-Some.ensures.list)
    c.in-Some.ensures.member (sym c.is_forward.ensures ∙ c.if-is_forward.false)
