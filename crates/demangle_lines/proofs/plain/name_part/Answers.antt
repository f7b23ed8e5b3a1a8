use Rattle.std.proofs.Common.{Some, refl, subst, sym}
use Rattle.demangle_printing.specs.Rules.{line_of}
use Rattle.demangle_meets.specs.Meets.{Meets}
use Rattle.demangle_meets.specs.Place.{world_of}
use Rattle.demangle_meets.proofs.Acts.{meets_done}
use Rattle.demangle_meets.proofs.Parts.{meets_at}
use Rattle.demangle_context.specs.PageOf.{page}
use Rattle.demangle_lines.specs.Known.{IsPlainName, plain_name}
use Rattle.demangle_lines.specs.ScopeOf.{lent_scope}
use Rattle.demangle_lines.proofs.plain.name_part.Goals as goal

pub returns-in_default : goal.returns-in_default
returns-in_default g c =
    meets_at (λ x. line_of (world_of (g.B.Below.at c.args.below).refers) x (lent_scope g.T.InnerNode.tree c.args.scope))
    c.in_default.ensures meets_done

pub returns-in-Some-plain_name : goal.returns-in-Some-plain_name
returns-in-Some-plain_name g c =
    let h : IsPlainName (g.B.Below.at c.args.below).refers.input (g.T.InnerNode.tree c.in-Some.found)
    c.in-Some-plain_name.bytes.now = rw c.input.ensures at c.in-Some-plain_name.ensures in
    let y = plain_name h.start h.stop in
    meets_at (λ x. line_of (world_of (g.B.Below.at c.args.below).refers) x (lent_scope g.T.InnerNode.tree c.args.scope))
    c.in-Some.ensures
    (subst (λ x. Meets (g.B.Below.at c.args.below) (page g.T.InnerNode.tree g.T.RefersTo.table g.W.DemangleWrite.seen
    c.args.ctx.now) (page g.T.InnerNode.tree g.T.RefersTo.table g.W.DemangleWrite.seen c.plain_line.new.ctx)
    (line_of (world_of (g.B.Below.at c.args.below).refers) (Some x) (lent_scope g.T.InnerNode.tree c.args.scope)))
    (sym h.is) (c.plain_line.ensures y (lent_scope g.T.InnerNode.tree c.args.scope)
    (record { start = h.start; stop = h.stop; is = refl; here = h.here })))

pub returns-in-None : goal.returns-in-None
returns-in-None g c =
    meets_at (λ x. line_of (world_of (g.B.Below.at c.args.below).refers) x (lent_scope g.T.InnerNode.tree c.args.scope))
    c.in-Some.ensures c.itself.ensures
