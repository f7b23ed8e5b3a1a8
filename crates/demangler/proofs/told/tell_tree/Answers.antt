use Rattle.std.proofs.Common.{subst}
use Rattle.demangle_cell_trees.specs.ArenaTrees.{tree_at}
use Rattle.demangle_cell_trees.specs.NodeTrees.{table_in}
use Rattle.demangle_lines_print.specs.Telling.{Tells, telling}
use Rattle.demangler.proofs.NamesTold.{tells_nothing}
use Rattle.demangler.proofs.told.tell_tree.Goals as goal

pub returns-in_default : goal.returns-in_default
returns-in_default g c = tells_nothing (g.W.DemangleWrite.seen c.args.out.now) c.args.print.now.limit _

pub returns-in-Ok-new : goal.returns-in-Ok-new
returns-in-Ok-new g c =
    subst (λ t. Tells (g.W.DemangleWrite.seen c.args.out.now) (g.W.DemangleWrite.seen c.tell-items.new.out)
    c.args.print.now.limit (telling t c.args.bytes.now c.args.print.now (tree_at c.args.arena.now c.args.id))
    c.tell-items.result.1) c.in-Ok.ensures
    (subst (λ x. Tells (g.W.DemangleWrite.seen c.args.out.now) (g.W.DemangleWrite.seen c.tell-items.new.out)
    c.args.print.now.limit (telling (table_in c.in-Ok.components) c.args.bytes.now c.args.print.now x)
    c.tell-items.result.1) c.tree_at.ensures c.tell-items.ensures.told)

pub returns : goal.returns
returns g c = tells_nothing (g.W.DemangleWrite.seen c.args.out.now) c.args.print.now.limit _
