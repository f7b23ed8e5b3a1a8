use Rattle.std.proofs.Common.{◌≡◌, ◌∙◌, ◌+◌, ◌≤◌, ℕ, suc, List, sym, ap, rules, arith}
use Rattle.std.proofs.lemmas.List.{with_items_is}
use Rattle.demangle_core.specs.Core.{N, U}
use Rattle.demangle_core.specs.Table.{size}
use Rattle.demangle_cells.specs.declared.arena.Arena.{Arena}
use Rattle.demangle_cell_trees.specs.ArenaTrees.{table_of}
use Rattle.demangle_cell_trees.specs.Ends.{Kept}
use Rattle.demangle_cell_trees.specs.Steps.{past_steps}
use Rattle.demangle_cell_trees.specs.declared.roles.Sought.{Sought}
use Rattle.demangle_cell_trees.proofs.LastOnes.{kept_all}
use Rattle.demangle_cell_trees.proofs.ends.ends_of.Goals as goal
use Rattle.demangle_cell_trees.proofs.ends.ends_of.Goals.{then-numbered-behind+then-keep, else-numbered-behind}
use Rattle.demangle_cell_trees.proofs.ends.ends_of.Goals.{else-numbered-behind-via-then-numbered-behind+else-keep}
use Rattle.demangle_cell_trees.proofs.ends.ends_of.Goals.{else-numbered-behind-via-else-numbered-behind}

-- one turn of the loop, where the list before it is lent and what is left there is put back
turned : (s : Sought) (a : Arena) (split more : ℕ) (old lent new put : List ℕ) → Kept s a split more old → lent ≡ old
    → (Kept s a split more lent → Kept s a split (suc more) new) → put ≡ new → Kept s a split (more + 1) put
turned s a split more old lent new put k e f p =
    let n : more + 1 ≡ suc more = omega arith in
    rw (n, p) (f (rw e k))

pub loop-round-preserved : goal.loop-round-preserved
loop-round-preserved c =
    elim c.if-numbered-behind.branch [
      | then-numbered-behind+then-keep w ↦ (
        turned c.args.sought c.args.arena.now c.args.split c.loop-round._round c.loop-round.ends.items
            w.deref_mut.result.now w.keep.new.ends c.if-numbered-behind.ends.items c.loop-round.invariant.0
            w.deref_mut.ensures.value (w.keep.ensures.more c.loop-round._round)
            (ap (λ v. v.items) w.ends-is
            ∙ with_items_is c.loop-round.ends w.keep.new.ends (w.keep.auto.ends ∙ w.deref_mut.ensures.len)),
        rw w.others-is c.loop-round.invariant.1,
      )
      | else-numbered-behind w ↦ (
        turned c.args.sought c.args.arena.now c.args.split c.loop-round._round c.loop-round.ends.items
            w.deref_mut-else-numbered-behind.result.now w.keep-kept.new.ends c.if-numbered-behind.ends.items
            c.loop-round.invariant.0
            (w.deref_mut-else-numbered-behind.ensures.value ∙ elim w.else-numbered-behind.branch [
              | else-numbered-behind-via-then-numbered-behind+else-keep v ↦
                  ap (λ x. x.items) v.ends-is
                  ∙ with_items_is c.loop-round.ends v.keep.new.ends (v.keep.auto.ends ∙ v.deref_mut.ensures.len)
                  ∙ (v.keep.ensures.same v.if-keep.false ∙ v.deref_mut.ensures.value)
              | else-numbered-behind-via-else-numbered-behind v ↦ ap (λ x. x.items) v.ends-is
            ])
            (w.keep-kept.ensures.more c.loop-round._round)
            (ap (λ v. v.items) w.ends-is
            ∙ with_items_is w.else-numbered-behind.ends w.keep-kept.new.ends
            (w.keep-kept.auto.ends ∙ w.deref_mut-else-numbered-behind.ensures.len)),
        omega (arith, w.others-is, w.min-others.ensures),
      )
    ]

pub returns : goal.returns
returns c =
    kept_all c.args.sought c.args.arena.now c.args.split c.loop-round.ends.items c.loop-round._round
    (size N (table_of c.args.arena.now) + size U (table_of c.args.arena.now))
    (omega (arith, c.requires, c.loop-round.auto)) c.loop-round.invariant.0
