use Rattle.std.proofs.Common.{◌∙◌, ap}
use Rattle.demangle_context.specs.Items.{no_items}
use Rattle.demangle_lines_print.proofs.Told.{same_limit, tells_told}
use Rattle.demangle_lines_print.proofs.telling.tell.Goals as goal

pub returns-clause-stacks : goal.returns-clause-stacks
returns-clause-stacks g c =
    c.end_with_items-items.ensures.items
    ∙ ap no_items (same_limit g.T.RefersTo.table g.T.InnerNode.tree g.W.DemangleWrite.seen c.args.options.now _ _ _
    c.begin-ctx.ensures c.print_itself-answer.ensures)

pub returns-clause-told : goal.returns-clause-told
returns-clause-told g c =
    tells_told g.T.RefersTo.table g.T.InnerNode.tree g.W.DemangleWrite.seen c.args.options.now _ _ _
    c.begin-ctx.ensures c.print_itself-answer.ensures c.end_with_items-items.ensures.same_reference
    c.end_with_items-items.ensures.seen (assumption)
