use Rattle.std.proofs.Common.{◌∙◌, ap, refl, sym}
use Rattle.demangle_printing.specs.Scope.{scope_argument}
use Rattle.demangle_printing.specs.Trees.{with_table}
use Rattle.demangle_lines.specs.Entries.{marked}
use Rattle.demangle_lines.specs.ScopeOf.{lent_scope}
use Rattle.demangle_lines.proofs.Entries.{argument_ends, argument_here, argument_next, no_arguments}
use Rattle.demangle_lines.proofs.lookups.argument_in.Goals as goal

pub loop-rest-preserved : goal.loop-rest-preserved
loop-rest-preserved g c = λ input.
    c.loop-rest.invariant input
    ∙ (ap (λ z. scope_argument (with_table (g.T.RefersTo.table c.args.subs.now) input)
    (marked c.loop-rest.mark (lent_scope g.T.InnerNode.tree z)) c.args.number) c.in-Some.is
    ∙ argument_next g.T.InnerNode.tree (g.T.RefersTo.table c.args.subs.now) input c.in-Some.entry.now c.loop-rest.mark
    c.mark_behind-mark.result c.args.number c.copied-list.result c.began.result c.copied-list.ensures c.began.ensures
    c.mark_behind-mark.ensures c.in_default-argument_of.ensures)

pub returns-in-Some-argument_of : goal.returns-in-Some-argument_of
returns-in-Some-argument_of g c = λ input.
    argument_here g.T.InnerNode.tree (g.T.RefersTo.table c.args.subs.now) input c.in-Some.entry.now c.loop-rest.mark
    c.args.number _ c.copied-list.result c.copied-list.ensures c.in-Some-argument_of.ensures
    ∙ sym (c.loop-rest.invariant input
    ∙ ap (λ z. scope_argument (with_table (g.T.RefersTo.table c.args.subs.now) input)
    (marked c.loop-rest.mark (lent_scope g.T.InnerNode.tree z)) c.args.number) c.in-Some.is)

pub argument_of-requires : goal.argument_of-requires
argument_of-requires g c = sym c.is_end.ensures ∙ c.if-is_end.false

pub returns-then-is_end : goal.returns-then-is_end
returns-then-is_end g c = λ input.
    argument_ends g.T.InnerNode.tree (g.T.RefersTo.table c.args.subs.now) input c.in-Some.entry.now c.loop-rest.mark
    c.args.number (sym c.is_end.ensures ∙ c.if-is_end.true)
    ∙ sym (c.loop-rest.invariant input
    ∙ ap (λ z. scope_argument (with_table (g.T.RefersTo.table c.args.subs.now) input)
    (marked c.loop-rest.mark (lent_scope g.T.InnerNode.tree z)) c.args.number) c.in-Some.is)

pub returns : goal.returns
returns g c = λ input.
    no_arguments g.T.InnerNode.tree (g.T.RefersTo.table c.args.subs.now) input c.loop-rest.rest c.loop-rest.mark
    c.args.number c.in_default.is
    ∙ sym (c.loop-rest.invariant input)
