use Rattle.std.proofs.Common.{ap, ◌∙◌, subst, ◌≤◌, [], drop}
use Rattle.demangle_text.specs.Spot.{spot}
use Rattle.demangle_table.specs.TableOf.{table_of}
use Rattle.demangle_grammar.specs.Code.{here, cread}
use Rattle.demangle_leaf_rows.specs.Answers.{AnswersOrOutOfMemory}
use Rattle.demangle_leaf_rows.specs.Context.{levels_left}
use Rattle.demangle_parse.proofs.Tries.{needs_here, same_place, answers_all, deepens_all}
use Rattle.demangle_parse.proofs.parsed.parsed_in.Goals as goal

pub raise_by-requires : goal.raise_by-requires
raise_by-requires g c =
    subst (λ l. c.in_ok-levels.levels ≤ l) c.depth-left.ensures.levels
    (c.in_ok-levels.ensures.needs (table_of c.args.subs.now) c.in_ok-arena.ensures).within

pub read_out-requires-clause-table : goal.read_out-requires-clause-table
read_out-requires-clause-table g c = c.in_ok-levels.ensures.kept (table_of c.args.subs.now) c.in_ok-arena.ensures

pub returns-clause-reads : goal.returns-clause-reads
returns-clause-reads g c =
    let row = g.X.ReadCells.row in
    let whole = table_of c.args.subs.now in
    let left = c.depth-left in
    let place = same_place c.in-Some.text (spot c.args.input) c.index.result c.index.ensures.value
    (ap (drop (spot c.args.input).index) c.in-Some.ensures ∙ c.requires.at_index) in
    let needs = needs_here row c.levels_known.result left.result.levels (levels_left c.args.ctx.now)
    c.in_ok-levels.levels left.result.conversion c.args.ctx.now.conversion c.in-Some.text c.index.result
    (spot c.args.input) whole left.ensures.levels left.ensures.conversion place
    (c.in_ok-levels.ensures.needs whole c.in_ok-arena.ensures) in
    let reads = subst (λ on.
    AnswersOrOutOfMemory g.X.ReadCells.tree c.read_out.result (table_of c.read_out.new.subs)
    (cread c.in_ok-levels.levels row on (here (spot c.args.input) whole) []))
    left.ensures.conversion c.read_out.ensures.reads in
    answers_all g.X.ReadCells.tree row c.args.ctx.now c.raise_by.new.self c.args.input whole
    (table_of c.read_out.new.subs) c.read_out.result c.in_ok-levels.levels c.levels_known.result needs reads

pub returns-clause-deepest : goal.returns-clause-deepest
returns-clause-deepest g c =
    let row = g.X.ReadCells.row in
    let whole = table_of c.args.subs.now in
    let left = c.depth-left in
    let place = same_place c.in-Some.text (spot c.args.input) c.index.result c.index.ensures.value
    (ap (drop (spot c.args.input).index) c.in-Some.ensures ∙ c.requires.at_index) in
    let needs = needs_here row c.levels_known.result left.result.levels (levels_left c.args.ctx.now)
    c.in_ok-levels.levels left.result.conversion c.args.ctx.now.conversion c.in-Some.text c.index.result
    (spot c.args.input) whole left.ensures.levels left.ensures.conversion place
    (c.in_ok-levels.ensures.needs whole c.in_ok-arena.ensures) in
    let reads = subst (λ on.
    AnswersOrOutOfMemory g.X.ReadCells.tree c.read_out.result (table_of c.read_out.new.subs)
    (cread c.in_ok-levels.levels row on (here (spot c.args.input) whole) []))
    left.ensures.conversion c.read_out.ensures.reads in
    deepens_all g.X.ReadCells.tree row c.args.ctx.now c.raise_by.new.self c.args.input whole
    (table_of c.read_out.new.subs) c.read_out.result c.in_ok-levels.levels c.levels_known.result
    c.levels_known.ensures.levels needs c.raise_by.ensures reads
