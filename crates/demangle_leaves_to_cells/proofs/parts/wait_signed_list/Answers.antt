use Rattle.std.proofs.lemmas.List.{take_more}
use Rattle.std.proofs.Common.{rules}
use Rattle.demangle_leaves_to_cells.proofs.Puts.{numbers_more, waits_failed}
use Rattle.demangle_leaves_to_cells.proofs.parts.wait_signed_list.Goals as goal

pub returns-in_err-wait : goal.returns-in_err-wait
returns-in_err-wait c = waits_failed _ _ _ _ _ _ _ c.in_err-wait.was (search rules) (c.wait.ensures _ _ _ _
    c.loop-node.invariant c.signed_to-part.ensures)

pub loop-node-preserved : goal.loop-node-preserved
loop-node-preserved c = numbers_more _ _ _ _ c.args.nodes.now c.loop-node.node-index _ c.in_ok-wait.was (search (
  rules,
  take_more,
)) (c.wait.ensures _ _ _ _ c.loop-node.invariant c.signed_to-part.ensures)
