use Rattle.std.proofs.Common.{rules}
use Rattle.std.proofs.lemmas.List.{take_more}
use Rattle.demangle_leaves_from_cells.proofs.Rows.{number_more}
use Rattle.demangle_leaves_from_cells.proofs.lists.number_list_of.Goals as goal

pub loop-id-preserved : goal.loop-id-preserved
loop-id-preserved c = λ F h. number_more
    F c.args.ids.now c.loop-id.id-index _ c.loop-id.list.items c.push.new.self.items
    c.in_ok-number_from.field-0 (search rules) (search (rules, take_more)) (c.loop-id.invariant F h)
    (c.in_ok-number_from.ensures.made F h)
