use Rattle.std.proofs.Common.{◌∙◌, refl, ap, sym, ◌-◌, subst, ◌≤◌, length}
use Rattle.demangle_text.specs.Spot.{spot}
use Rattle.demangle_table.specs.TableOf.{table_of}
use Rattle.demangle_cells.specs.Model.{model}
use Rattle.demangle_cells.specs.View.{view}
use Rattle.demangle_parse.proofs.Made.{old_taken}
use Rattle.demangle_parse.proofs.Places.{front_read, ends_behind, ends_inside, rest_at, found_there}
use Rattle.demangle_parse.proofs.parsed.read_out.Goals as goal

pub overflow_sub-part : goal.overflow_sub-part
overflow_sub-part g c =
    let front = front_read c.args.depth.levels g.X.ReadCells.row c.args.depth.conversion (spot c.args.input)
    c.args.text.bytes.now (table_of c.args.subs.now) c.args.text c.index.result c.in_ok-part.part (view c.args.arena.now)
    (view c.read_row-answer.new.arena) refl c.index.ensures.value c.requires.at_index
    c.requires.table c.in_ok-part.ensures.grown c.in_ok-part.ensures.reads c.each_arena_has_a_model.ensures in
    subst (λ n. n ≤ c.in_ok-part.part.end) (sym c.index-2.ensures.value) (ends_behind front)

pub range_from-rest-requires : goal.range_from-rest-requires
range_from-rest-requires g c =
    let front = front_read c.args.depth.levels g.X.ReadCells.row c.args.depth.conversion (spot c.args.input)
    c.args.text.bytes.now (table_of c.args.subs.now) c.args.text c.index.result c.in_ok-part.part (view c.args.arena.now)
    (view c.read_row-answer.new.arena) refl c.index.ensures.value c.requires.at_index
    c.requires.table c.in_ok-part.ensures.grown c.in_ok-part.ensures.reads c.each_arena_has_a_model.ensures in
    subst (λ n. c.in_ok-part.part.end - n ≤ length (spot c.args.input).left) (sym c.index-2.ensures.value)
    (ends_inside front)

pub returns-in-Ok-clause-reads : goal.returns-in-Ok-clause-reads
returns-in-Ok-clause-reads g c =
    let F = model (view c.read_row-answer.new.arena) in
    let h = c.each_arena_has_a_model.ensures in
    let front = front_read c.args.depth.levels g.X.ReadCells.row c.args.depth.conversion (spot c.args.input)
    c.args.text.bytes.now (table_of c.args.subs.now) c.args.text c.index.result c.in_ok-part.part (view c.args.arena.now)
    (view c.read_row-answer.new.arena) refl c.index.ensures.value c.requires.at_index
    c.requires.table c.in_ok-part.ensures.grown c.in_ok-part.ensures.reads c.each_arena_has_a_model.ensures in
    let old = old_taken F (view c.args.arena.now) (view c.read_row-answer.new.arena) c.entries-count.result.now
    (table_of c.args.subs.now) c.in_ok-part.ensures.grown c.entries-count.ensures
    (c.requires.table F (c.in_ok-part.ensures.grown.holds F h)) in
    let made = c.in-Ok.ensures.made F h old in
    let rest = rest_at (spot c.args.input) (spot c.range_from-rest.result) c.args.text.bytes.now c.in_ok-part.part.end
    (c.in_ok-part.part.end - c.index-2.result) c.requires.at_index (ends_behind front)
    (ap (λ n. c.in_ok-part.part.end - n) c.index-2.ensures.value) c.range_from-rest.ensures in
    front.found ∙ found_there _ _ _ _ _ _ made.0 rest made.1
