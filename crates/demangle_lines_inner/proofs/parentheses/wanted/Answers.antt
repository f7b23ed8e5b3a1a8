use Rattle.std.proofs.Common.{refl, sym, ◌∙◌, ap, arith}
use Rattle.std.proofs.lemmas.List.{drop_all}
use Rattle.demangle_printing.specs.Parameters.{wanted}
use Rattle.demangle_printing.specs.Parameters as want
use Rattle.demangle_meets.specs.Place.{world_of}
use Rattle.demangle_context.specs.PageOf.{page}
use Rattle.demangle_lines_inner.proofs.Wanting.{wanted_from, wanted_none}
use Rattle.demangle_lines_inner.proofs.parentheses.wanted.Goals as goal

pub loop-from_top-init : goal.loop-from_top-init
loop-from_top-init g c = refl

pub loop-from_top-preserved : goal.loop-from_top-preserved
loop-from_top-preserved g c =
    sym (wanted_from (world_of (g.B.Below.at c.args.below).refers) c.loop-from_top.from_top (page g.T.InnerNode.tree g.T.RefersTo.table g.W.DemangleWrite.seen c.args.ctx.now).inner (g.T.InnerNode.tree c.in-Some.item)
    want.none c.in-Some.ensures c.in-Needless.ensures)
    ∙ c.loop-from_top.invariant

pub returns-in_default : goal.returns-in_default
returns-in_default g c =
    sym (wanted_none (world_of (g.B.Below.at c.args.below).refers) c.loop-from_top.from_top (page g.T.InnerNode.tree g.T.RefersTo.table g.W.DemangleWrite.seen c.args.ctx.now).inner c.in_default.ensures)
    ∙ c.loop-from_top.invariant

pub returns-in-Plain : goal.returns-in-Plain
returns-in-Plain g c =
    sym (wanted_from (world_of (g.B.Below.at c.args.below).refers) c.loop-from_top.from_top (page g.T.InnerNode.tree g.T.RefersTo.table g.W.DemangleWrite.seen c.args.ctx.now).inner (g.T.InnerNode.tree c.in-Some.item)
    want.some c.in-Some.ensures c.in-Plain.ensures)
    ∙ c.loop-from_top.invariant

pub returns-in-Spaced : goal.returns-in-Spaced
returns-in-Spaced g c =
    sym (wanted_from (world_of (g.B.Below.at c.args.below).refers) c.loop-from_top.from_top (page g.T.InnerNode.tree g.T.RefersTo.table g.W.DemangleWrite.seen c.args.ctx.now).inner (g.T.InnerNode.tree c.in-Some.item)
    want.spaced c.in-Some.ensures c.in-Spaced.ensures)
    ∙ c.loop-from_top.invariant

pub returns : goal.returns
returns g c =
    sym (ap (λ hs. wanted (world_of (g.B.Below.at c.args.below).refers) hs)
    (drop_all c.loop-from_top.from_top (page g.T.InnerNode.tree g.T.RefersTo.table g.W.DemangleWrite.seen c.args.ctx.now).inner
    (omega (arith, c.waiting-from_top-end.ensures, c.loop-from_top-test.false))))
    ∙ c.loop-from_top.invariant
