use Rattle.demangle_grammar.specs.Rule.{Row}
use Rattle.demangle_read_types.proofs.RowLists.{reaches_next, waited_next, rest_ends, rest_fails}
use Rattle.demangle_read_expressions.proofs.Takes.{expressions_take}
use Rattle.demangle_read_expressions.proofs.lists.rest_of_expressions.Goals as goal

pub loop-more-preserved : goal.loop-more-preserved
loop-more-preserved g c =
    let d = c.args.depth in
    let a = c.expression-answer in
    let i = c.loop-more.invariant in
    let l = rw c.in-Some.is at c.in-Ok.ensures in
    record {
      waited =
          waited_next d.levels Row.expression d.conversion c.args.text c.args.at _ c.loop-more.end _ _ _ _ i.waited a.ensures.grown
          i.reaches a.result c.in-Some.next l;
      reaches =
          reaches_next d.levels Row.expression d.conversion c.args.text c.args.at _ c.loop-more.end _ _ _ _ i.waited
          a.ensures.grown i.reaches a.result c.in-Some.next expressions_take a.ensures.reads l;
    }

pub returns-in-None-clause-reads : goal.returns-in-None-clause-reads
returns-in-None-clause-reads g c =
    let d = c.args.depth in
    let a = c.expression-answer in
    let i = c.loop-more.invariant in
    rest_ends d.levels Row.expression d.conversion c.args.text c.args.at _ c.loop-more.end _ _ _ _ i.waited a.ensures.grown
    i.reaches a.result a.ensures.reads (rw c.in-None.is at c.in-Ok.ensures)

pub returns-in-Err-clause-reads : goal.returns-in-Err-clause-reads
returns-in-Err-clause-reads g c =
    let d = c.args.depth in
    let a = c.expression-answer in
    let i = c.loop-more.invariant in
    rest_fails d.levels Row.expression d.conversion c.args.text c.args.at _ c.loop-more.end _ _ _ _ i.waited a.ensures.grown
    i.reaches a.result c.in-Err.error c.mark-mark.ensures a.ensures.reads c.in-Err.ensures
