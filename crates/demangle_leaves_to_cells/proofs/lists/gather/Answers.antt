use Rattle.demangle_leaves_to_cells.proofs.Puts.{gather_put, gather_failed}
use Rattle.demangle_leaves_to_cells.proofs.lists.gather.Goals as goal

pub returns-in-Ok-gathered : goal.returns-in-Ok-gathered
returns-in-Ok-gathered c = λ before x f w.
    gather_put before _ _ c.args.from _ c.args.list x c.args.waited _ c.in-Ok.is f c.gathered.ensures.kept
    c.gathered.ensures.waiting c.in-Ok-gathered.ensures.made.1 w

pub returns-in-Err-gathered : goal.returns-in-Err-gathered
returns-in-Err-gathered c = λ before x f w.
    gather_failed before _ _ c.args.from x _ c.args.waited f c.gathered.ensures.kept c.gathered.ensures.waiting w

pub returns-in-Err : goal.returns-in-Err
returns-in-Err c = λ before x f w.
    gather_failed before _ _ c.args.from x _ c.args.waited f c.gathered-in-Err.ensures.kept
    c.gathered-in-Err.ensures.waiting w
