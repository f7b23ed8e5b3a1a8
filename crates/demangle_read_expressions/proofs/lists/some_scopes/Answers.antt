use Rattle.demangle_grammar.specs.Rule.{Row}
use Rattle.demangle_read_types.proofs.RowLists.{none_fails, some_ends, some_fails}
use Rattle.demangle_read_expressions.proofs.lists.some_scopes.Goals as goal

pub returns-in-Err-clause-reads : goal.returns-in-Err-clause-reads
returns-in-Err-clause-reads g c =
    let d = c.args.depth in
    none_fails d.levels Row.unresolved_qualifier_level Row.unresolved_qualifier_level d.conversion c.args.text c.args.at _ _ c.in-Err.error c.in-Err.ensures.reads

pub returns-in-Ok-rest_of_scopes-clause-reads : goal.returns-in-Ok-rest_of_scopes-clause-reads
returns-in-Ok-rest_of_scopes-clause-reads g c =
    let d = c.args.depth in
    let w = c.in_ok-wait.ensures in
    some_ends d.levels Row.unresolved_qualifier_level Row.unresolved_qualifier_level d.conversion c.args.text c.args.at c.in-Ok.first _ _ _ _ c.in-Ok.ensures.grown
    w.kept w.waits c.in-Ok.ensures.reads c.in-Ok-rest_of_scopes.ensures.waited c.in-Ok-rest_of_scopes.end
    c.in-Ok-rest_of_scopes.ensures.reads

pub returns-in-Err-rest_of_scopes-clause-reads : goal.returns-in-Err-rest_of_scopes-clause-reads
returns-in-Err-rest_of_scopes-clause-reads g c =
    let d = c.args.depth in
    let w = c.in_ok-wait.ensures in
    let e = c.in-Err-rest_of_scopes in
    some_fails d.levels Row.unresolved_qualifier_level Row.unresolved_qualifier_level d.conversion c.args.text c.args.at c.in-Ok.first _ _ _ _ c.in-Ok.ensures.grown
    w.kept w.waits c.in-Ok.ensures.reads e.ensures.waited _ _ e.error c.mark-mark.ensures c.cut_back.ensures e.ensures.reads
