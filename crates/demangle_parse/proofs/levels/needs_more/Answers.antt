use Rattle.std.proofs.Common.{rules}
use Rattle.demangle_cells.specs.View.{view}
use Rattle.demangle_parse.proofs.Tries.{table_kept, other_tells}
use Rattle.demangle_parse.proofs.levels.needs_more.Goals as goal

pub returns-in-Err-TooMuchRecursion-clause-kept : goal.returns-in-Err-TooMuchRecursion-clause-kept
returns-in-Err-TooMuchRecursion-clause-kept g c whole h =
    table_kept (view c.args.arena.now) (view c.read_row-answer.new.arena) (view c.cut_back.new.self)
    c.mark-mark.result whole c.mark-mark.ensures c.read_row-answer.ensures.grown c.cut_back.ensures h

pub returns-in-Err-OutOfMemory-clause-kept : goal.returns-in-Err-OutOfMemory-clause-kept
returns-in-Err-OutOfMemory-clause-kept g c whole h =
    table_kept (view c.args.arena.now) (view c.read_row-answer.new.arena) (view c.cut_back.new.self)
    c.mark-mark.result whole c.mark-mark.ensures c.read_row-answer.ensures.grown c.cut_back.ensures h

pub returns-in_default-2-clause-kept : goal.returns-in_default-2-clause-kept
returns-in_default-2-clause-kept g c whole h =
    table_kept (view c.args.arena.now) (view c.read_row-answer.new.arena) (view c.cut_back.new.self)
    c.mark-mark.result whole c.mark-mark.ensures c.read_row-answer.ensures.grown c.cut_back.ensures h

pub returns-in_default : goal.returns-in_default
returns-in_default g c = record {
  kept = λ whole h.
      table_kept (view c.args.arena.now) (view c.read_row-answer.new.arena) (view c.cut_back.new.self)
      c.mark-mark.result whole c.mark-mark.ensures c.read_row-answer.ensures.grown c.cut_back.ensures h;
  tells = λ whole h.
      other_tells g.X.ReadCells.row c.args.depth.conversion c.args.text c.args.at c.args.depth.levels
      (view c.args.arena.now) (view c.read_row-answer.new.arena) whole c.read_row-answer.result
      c.read_row-answer.ensures.grown h c.each_arena_has_a_model.ensures c.read_row-answer.ensures.reads
      (search rules) (search rules);
  refused = tt;
}
