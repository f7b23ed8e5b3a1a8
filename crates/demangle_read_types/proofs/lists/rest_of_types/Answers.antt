use Rattle.demangle_grammar.specs.Rule.{Row}
use Rattle.demangle_read_types.proofs.RowLists.{reaches_next, waited_next, rest_ends, rest_fails, rest_skips}
use Rattle.demangle_read_types.proofs.RowLists.{type_missed, types_take}
use Rattle.demangle_read_types.proofs.lists.rest_of_types.Goals as goal

pub rows-preserved : goal.rows-preserved
rows-preserved g c =
    let d = c.args.depth in
    let a = c.type_handle-answer in
    let i = c.rows.invariant in
    let l = rw c.in-Some.is at c.in-Ok.ensures in
    record {
      waited =
          waited_next d.levels Row.type_handle d.conversion c.args.text c.args.at _ c.rows.end _ _ _ _ i.waited
          a.ensures.grown
          i.reaches a.result c.in-Some.next l;
      reaches =
          reaches_next d.levels Row.type_handle d.conversion c.args.text c.args.at _ c.rows.end _ _ _ _ i.waited
          a.ensures.grown i.reaches a.result c.in-Some.next types_take a.ensures.reads l;
    }

pub returns-in-None-clause-reads : goal.returns-in-None-clause-reads
returns-in-None-clause-reads g c =
    let d = c.args.depth in
    let a = c.type_handle-answer in
    let i = c.rows.invariant in
    rest_ends d.levels Row.type_handle d.conversion c.args.text c.args.at _ c.rows.end _ _ _ _ i.waited a.ensures.grown
    i.reaches a.result a.ensures.reads (rw c.in-None.is at c.in-Ok.ensures)

pub returns-in-Err-clause-reads : goal.returns-in-Err-clause-reads
returns-in-Err-clause-reads g c =
    let d = c.args.depth in
    let a = c.type_handle-answer in
    let i = c.rows.invariant in
    rest_fails d.levels Row.type_handle d.conversion c.args.text c.args.at _ c.rows.end _ _ _ _ i.waited a.ensures.grown
    i.reaches a.result c.in-Err.error c.mark-mark.ensures a.ensures.reads c.in-Err.ensures

pub returns-then-ends_list-clause-reads : goal.returns-then-ends_list-clause-reads
returns-then-ends_list-clause-reads g c =
    let d = c.args.depth in
    let e = c.ends_list.ensures c.if-ends_list.true in
    rest_skips d.levels Row.type_handle d.conversion c.args.text c.args.at _ c.rows.end _ c.rows.invariant.reaches
    (λ t. type_missed d.levels d.conversion _ t e.0 e.1)
