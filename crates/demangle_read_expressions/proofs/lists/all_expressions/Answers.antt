use Rattle.demangle_grammar.specs.Rule.{Row}
use Rattle.demangle_read_types.proofs.RowLists.{all_lists}
use Rattle.demangle_read_expressions.proofs.lists.all_expressions.Goals as goal

pub returns-clause-reads : goal.returns-clause-reads
returns-clause-reads g c =
    let d = c.args.depth in
    let r = c.rest_of_expressions in
    all_lists d.levels Row.expression d.conversion c.args.text c.args.at _ _ r.result r.ensures.reads
