use Rattle.std.proofs.Common.{inl, inr, rules}
use Rattle.demangle_entries.specs.TreeEntries.{tree_of_substitutable}
use Rattle.demangle_table.specs.TableOf.{table_of}
use Rattle.demangle_cells.specs.View.{view}
use Rattle.demangle_parse.proofs.Adding.{lacks_all, lacks_next, lacks_none}
use Rattle.demangle_parse.proofs.table.arena_of.Goals as goal
use Rattle.demangle_parse.proofs.table.arena_of.Goals.{in_default, in_default-2}

pub loop-others-init : goal.loop-others-init
loop-others-init c =
    lacks_all tree_of_substitutable (view c.new-arena.result) (table_of c.args.subs.now) c.lists.result.0.now
    c.lists.result.1.now c.lists.result.2.now c.new-arena.ensures.entries c.lists.ensures

pub loop-others-preserved : goal.loop-others-preserved
loop-others-preserved c =
    lacks_next tree_of_substitutable (view c.loop-others.arena) (view c.put_numbered.new.arena) (view c.put.new.arena)
    (table_of c.args.subs.now) c.loop-others.done c.saturating_sub.result c.loop-others.numbered.now
    c.loop-others.others.now c.divided.result.0.now c.divided.result.1.now c.loop-others.before.now c.other-item.result
    (search rules) (search rules) c.other-item.is c.saturating_sub.ensures c.divided.ensures.front c.divided.ensures.rest
    c.loop-others.invariant c.in_ok-put_numbered.ensures c.in_ok-put.ensures

pub returns : goal.returns
returns c = elim c.if-others-lt1.branch [
  | in_default w ↦
      lacks_none tree_of_substitutable (view c.loop-others.arena) (view c.put_numbered-2.new.arena)
      (table_of c.args.subs.now) c.loop-others.done c.loop-others.numbered.now c.loop-others.others.now
      c.loop-others.before.now (inl w.in_default.len_below) c.loop-others.invariant c.in_ok-put_numbered-2.ensures
  | in_default-2 w ↦
      lacks_none tree_of_substitutable (view c.loop-others.arena) (view c.put_numbered-2.new.arena)
      (table_of c.args.subs.now) c.loop-others.done c.loop-others.numbered.now c.loop-others.others.now
      c.loop-others.before.now (inr (search rules)) c.loop-others.invariant c.in_ok-put_numbered-2.ensures
]
