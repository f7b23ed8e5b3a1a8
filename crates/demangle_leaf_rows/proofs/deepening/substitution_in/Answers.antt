use Rattle.std.proofs.Common.{rules, of_calls}
use Rattle.demangle_text.specs.Spot.{spot}
use Rattle.demangle_leaf_nodes.specs.TreeLeaves.{tree_of_substitution}
use Rattle.demangle_grammar.specs.Rule.{Row}
use Rattle.demangle_leaf_rows.proofs.Levels.{answers_same, deepens}
use Rattle.demangle_leaf_rows.proofs.deepening.substitution_in.Goals as goal

pub returns-clause-reads : goal.returns-clause-reads
returns-clause-reads c table size =
    let d = c.deepening.ensures in
    answers_same tree_of_substitution Row.substitution c.args.ctx.now.conversion (spot c.args.input) table
    c.deepening.result d.levels _ d.within d.enough (search (rules, of_calls))

pub returns-clause-deepest : goal.returns-clause-deepest
returns-clause-deepest c table size =
    let d = c.deepening.ensures in
    deepens tree_of_substitution Row.substitution c.args.ctx.now c.deepening.new.ctx c.args.input table
    c.deepening.result d.levels d.deepest (search (rules, of_calls))
    (λ less e. let n = d.needed less e in search (rules, of_calls, n))
