use Rattle.demangle_cells.specs.View.{view}
use Rattle.demangle_cell_trees.specs.ArenaTrees.{tree_at}
use Rattle.demangler.proofs.Founds.{ends_at, fails_so}
use Rattle.demangler.proofs.NamesTold.{unread_answers, unread_told, unread_faults, unread_lengthens, unread_caused}
use Rattle.demangler.proofs.NamesTold.{told_answers, told_whole, told_faults, told_lengthens}
use Rattle.demangler.proofs.NamesTold.{stopped_answers, stopped_told, stopped_faults, stopped_lengthens}
use Rattle.demangler.proofs.NamesTold.{stopped_caused}
use Rattle.demangler.proofs.told.told.Goals as goal

-- ---- it is told whole
pub returns-in-Ok-told-clause-outcome : goal.returns-in-Ok-told-clause-outcome
returns-in-Ok-told-clause-outcome g c =
    told_answers c.args.parse.now c.args.print.now c.args.bytes.now
    (ends_at c.read_whole.new.arena _ _ c.in-Ok.ensures).1 c.in-Ok-told.field-0
    c.in-Ok-told.ensures

pub returns-in-Ok-told-clause-told : goal.returns-in-Ok-told-clause-told
returns-in-Ok-told-clause-told g c =
    told_whole c.args.parse.now c.args.print.now c.args.bytes.now
    (ends_at c.read_whole.new.arena _ _ c.in-Ok.ensures).1 c.in-Ok-told.field-0
    c.in-Ok-told.ensures

pub returns-in-Ok-told-clause-faults : goal.returns-in-Ok-told-clause-faults
returns-in-Ok-told-clause-faults g c =
    told_faults c.args.parse.now c.args.print.now c.args.bytes.now
    (ends_at c.read_whole.new.arena _ _ c.in-Ok.ensures).1 c.in-Ok-told.field-0
    c.in-Ok-told.ensures

pub returns-in-Ok-told-clause-lengthens : goal.returns-in-Ok-told-clause-lengthens
returns-in-Ok-told-clause-lengthens g c =
    told_lengthens c.args.parse.now c.args.print.now c.args.bytes.now
    (ends_at c.read_whole.new.arena _ _ c.in-Ok.ensures).1 c.in-Ok-told.field-0
    c.in-Ok-told.ensures

-- ---- its tree isn't printed
pub returns-in-Err-told-clause-outcome : goal.returns-in-Err-told-clause-outcome
returns-in-Err-told-clause-outcome g c =
    rw c.print_fault.ensures
    (stopped_answers c.args.parse.now c.args.print.now c.args.bytes.now
    (ends_at c.read_whole.new.arena _ _ c.in-Ok.ensures).1 c.in-Err-told.error
    c.in-Err-told.ensures)

pub returns-in-Err-told-clause-told : goal.returns-in-Err-told-clause-told
returns-in-Err-told-clause-told g c =
    rw c.print_fault.ensures
    (stopped_told c.args.parse.now c.args.print.now c.args.bytes.now
    (ends_at c.read_whole.new.arena _ _ c.in-Ok.ensures).1 c.in-Err-told.error
    c.in-Err-told.ensures)

pub returns-in-Err-told-clause-faults : goal.returns-in-Err-told-clause-faults
returns-in-Err-told-clause-faults g c =
    rw c.print_fault.ensures
    (stopped_faults c.args.parse.now c.args.print.now c.args.bytes.now
    (ends_at c.read_whole.new.arena _ _ c.in-Ok.ensures).1 c.in-Err-told.error
    c.in-Err-told.ensures)

pub returns-in-Err-told-clause-lengthens : goal.returns-in-Err-told-clause-lengthens
returns-in-Err-told-clause-lengthens g c =
    stopped_lengthens c.args.parse.now c.args.print.now c.args.bytes.now
    (ends_at c.read_whole.new.arena _ _ c.in-Ok.ensures).1 c.in-Err-told.error
    c.in-Err-told.ensures

pub returns-in-Err-told-clause-causes : goal.returns-in-Err-told-clause-causes
returns-in-Err-told-clause-causes g c =
    rw c.print_fault.ensures
    (stopped_caused c.args.parse.now c.args.print.now c.args.bytes.now
    (ends_at c.read_whole.new.arena _ _ c.in-Ok.ensures).1 c.in-Err-told.error
    c.in-Err-told.ensures)

-- ---- it isn't read
pub returns-in-Err-clause-outcome : goal.returns-in-Err-clause-outcome
returns-in-Err-clause-outcome g c =
    rw c.read_fault.ensures
    (unread_answers c.args.parse.now c.args.print.now c.args.bytes.now
    (tree_at c.read_whole.new.arena) (view c.read_whole.new.arena) c.in-Err.error
    (g.W.DemangleWrite.seen c.args.out.now)
    (fails_so c.read_whole.new.arena _ _ c.in-Err.ensures))

pub returns-in-Err-clause-told : goal.returns-in-Err-clause-told
returns-in-Err-clause-told g c =
    rw c.read_fault.ensures
    (unread_told c.args.parse.now c.args.print.now c.args.bytes.now c.in-Err.error
    (g.W.DemangleWrite.seen c.args.out.now))

pub returns-in-Err-clause-faults : goal.returns-in-Err-clause-faults
returns-in-Err-clause-faults g c =
    rw c.read_fault.ensures
    (unread_faults c.args.parse.now c.args.print.now c.args.bytes.now c.in-Err.error
    (g.W.DemangleWrite.seen c.args.out.now))

pub returns-in-Err-clause-lengthens : goal.returns-in-Err-clause-lengthens
returns-in-Err-clause-lengthens g c =
    unread_lengthens (g.W.DemangleWrite.seen c.args.out.now)

pub returns-in-Err-clause-causes : goal.returns-in-Err-clause-causes
returns-in-Err-clause-causes g c =
    rw c.read_fault.ensures
    (unread_caused c.args.parse.now c.args.print.now c.args.bytes.now
    (tree_at c.read_whole.new.arena) (view c.read_whole.new.arena) c.in-Err.error
    (fails_so c.read_whole.new.arena _ _ c.in-Err.ensures))
