use Rattle.std.proofs.Common.{◌∙◌, ap, refl, sym}
use Rattle.std.specs.Prelude.{Ok}
use Rattle.demangle_printing.specs.Scope.{scope_leaf}
use Rattle.demangle_lines.specs.ScopeOf.{lent_scope}
use Rattle.demangle_lines.proofs.Entries.{leaf_behind, leaf_ends, leaf_here, no_leaves}
use Rattle.demangle_lines.proofs.lookups.leaf_in.Goals as goal

pub loop-rest-preserved : goal.loop-rest-preserved
loop-rest-preserved g c =
    c.loop-rest.invariant
    ∙ (ap (λ z. scope_leaf (lent_scope g.T.InnerNode.tree z)) c.in-Some.is
    ∙ leaf_behind g.T.InnerNode.tree c.in-Some.entry.now (sym c.is_end.ensures ∙ c.if-is_end.false)
    (sym c.is_leaf.ensures ∙ c.if-is_leaf.false))

pub returns-then-is_end : goal.returns-then-is_end
returns-then-is_end g c = λ r.
    sym (c.loop-rest.invariant
    ∙ (ap (λ z. scope_leaf (lent_scope g.T.InnerNode.tree z)) c.in-Some.is
    ∙ leaf_ends g.T.InnerNode.tree c.in-Some.entry.now (sym c.is_end.ensures ∙ c.if-is_end.true)))

pub returns-then-is_leaf : goal.returns-then-is_leaf
returns-then-is_leaf g c = λ r.
    ap (λ y. Ok (g.T.InnerNode.tree y)) c.copied.ensures
    ∙ sym (c.loop-rest.invariant
    ∙ (ap (λ z. scope_leaf (lent_scope g.T.InnerNode.tree z)) c.in-Some.is
    ∙ leaf_here g.T.InnerNode.tree c.in-Some.entry.now (sym c.is_leaf.ensures ∙ c.if-is_leaf.true)))

pub returns : goal.returns
returns g c = λ r. sym (c.loop-rest.invariant ∙ no_leaves g.T.InnerNode.tree c.loop-rest.rest c.in_default.is)
