use Rattle.demangle_grammar.specs.Rule.{Row}
use Rattle.demangle_read_types.proofs.RowLists.{none_fails, some_ends, some_fails}
use Rattle.demangle_read_types.proofs.lists.some_types.Goals as goal

pub returns-in-Err-clause-reads : goal.returns-in-Err-clause-reads
returns-in-Err-clause-reads g c =
    let d = c.args.depth in
    none_fails d.levels Row.type_handle Row.type_handle d.conversion c.args.text c.args.at _ _ c.in-Err.error
    c.in-Err.ensures.reads

pub returns-in-Ok-rest_of_types-clause-reads : goal.returns-in-Ok-rest_of_types-clause-reads
returns-in-Ok-rest_of_types-clause-reads g c =
    let d = c.args.depth in
    let w = c.in_ok-wait.ensures in
    some_ends d.levels Row.type_handle Row.type_handle d.conversion c.args.text c.args.at c.in-Ok.first _ _ _ _
    c.in-Ok.ensures.grown
    w.kept w.waits c.in-Ok.ensures.reads c.in-Ok-rest_of_types.ensures.waited c.in-Ok-rest_of_types.end
    c.in-Ok-rest_of_types.ensures.reads

pub returns-in-Err-rest_of_types-clause-reads : goal.returns-in-Err-rest_of_types-clause-reads
returns-in-Err-rest_of_types-clause-reads g c =
    let d = c.args.depth in
    let w = c.in_ok-wait.ensures in
    let e = c.in-Err-rest_of_types in
    some_fails d.levels Row.type_handle Row.type_handle d.conversion c.args.text c.args.at c.in-Ok.first _ _ _ _
    c.in-Ok.ensures.grown
    w.kept w.waits c.in-Ok.ensures.reads e.ensures.waited _ _ e.error c.mark-mark.ensures c.cut_back.ensures
    e.ensures.reads
