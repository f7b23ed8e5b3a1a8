use Rattle.std.proofs.Common.{refl, arith}
use Rattle.demangle_cells.specs.Stored.{stored}
use Rattle.demangle_cells.proofs.Trees.{cells_after}
use Rattle.demangle_cells.proofs.Grows.{cell_grown, cell_made}
use Rattle.demangle_cells.proofs.store.Store.keep.Goals as goal

pub invariant_of-self : goal.invariant_of-self
invariant_of-self c =
    let p = cells_after _ _ _ _ c.args.cell c.push.ensures.items c.push.ensures.same
    (omega (arith, c.next.ensures, c.if-next-ge-FIRST_REFERENCE.false))
    c.args.self.now.behind (c.has_parts.ensures c.if-not-has_parts.false) in
    record {
      few = p.0;
      short = c.args.self.now.short;
      behind = p.1;
      those_numbered = c.args.self.now.those_numbered;
      the_others = c.args.self.now.the_others;
    }

pub returns-clause-grown : goal.returns-clause-grown
unfolding stored
returns-clause-grown c = cell_grown (stored c.args.self.now) _ c.args.cell c.in_ok-push.ensures.items refl refl refl

pub returns-clause-made : goal.returns-clause-made
unfolding stored
returns-clause-made c =
    λ F h. cell_made F
    (stored c.args.self.now) _ c.args.cell c.next-id.result c.in_ok-push.ensures.items c.next-id.ensures h
