use Rattle.std.proofs.Common.{arith, rules}
use Rattle.demangle_cells.specs.Held.{held}
use Rattle.demangle_cells.specs.Stored.{stored}
use Rattle.demangle_cells.proofs.Components.{numbered_reference, numbered_more, others_same}
use Rattle.demangle_cells.proofs.store.Store.add_numbered.Goals as goal

pub invariant_of-self-in-Ok : goal.invariant_of-self-in-Ok
invariant_of-self-in-Ok c = record {
  few = c.args.self.now.few;
  short = c.args.self.now.short;
  behind = c.args.self.now.behind;
  those_numbered = numbered_more _ _ _ _ c.args.id c.args.self.now.those_numbered c.in_ok-push.ensures.items c.in-Ok.ensures.items;
  the_others = others_same _ _ _ c.args.id c.args.self.now.the_others c.in_ok-push.ensures.items;
}

pub returns-in-Ok-clause-reference : goal.returns-in-Ok-clause-reference
unfolding stored
returns-in-Ok-clause-reference c =
    λ F h. numbered_reference F
    (stored c.args.self.now) _ c.len-number.result (held c.args.self.now.numbered) c.args.self.now.those_numbered
    (search (rules, c.len-number.ensures)) (grind (arith, c.if-number.false)) h
