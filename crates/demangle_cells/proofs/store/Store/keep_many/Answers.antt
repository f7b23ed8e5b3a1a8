use Rattle.std.proofs.Common.{◌≡◌, refl, ap, ◌∙◌, sym, subst, ◌+◌, ◌-◌, true, length, drop, take, arith}
use Rattle.demangle_core.specs.Core.{node, end}
use Rattle.demangle_cells.specs.Behind.{all_known}
use Rattle.demangle_cells.specs.Cells.{row}
use Rattle.demangle_cells.specs.Fixed.{first_cell}
use Rattle.demangle_cells.specs.Held.{held}
use Rattle.demangle_cells.specs.Tags.{tag_of}
use Rattle.demangle_cells.specs.Stored.{stored}
use Rattle.demangle_cells.proofs.Lists.{rest_length, rest_taken}
use Rattle.demangle_cells.proofs.Trees.{cells_after}
use Rattle.demangle_cells.proofs.Waits.{list_after, many_behind, list_kept, list_longer, list_made}
use Rattle.demangle_cells.proofs.store.Store.keep_many.Goals as goal

pub invariant_of-self-3 : goal.invariant_of-self-3
invariant_of-self-3 c =
    let p = list_after _ _ _ _ (held c.args.self.now.cells) c.len-start.result _
    c.extend.ensures.items c.extend.ensures.same c.len-start.ensures
    (rest_length c.args.from _ _ _ c.len.ensures c.items-2.ensures)
    (omega (arith, c.len-start.ensures, c.args.self.now.short)) (omega (arith, c.if-count-start.false))
    c.args.self.now.behind in
    record {
      few = c.args.self.now.few;
      short = p.0;
      behind = p.1;
      those_numbered = c.args.self.now.those_numbered;
      the_others = c.args.self.now.the_others;
    }

pub invariant_of-self-4 : goal.invariant_of-self-4
invariant_of-self-4 c =
    let n = rest_length c.args.from _ _ _ c.len.ensures c.items-2.ensures in
    let l = list_after _ _ _ _ (held c.args.self.now.cells) c.len-start.result _
    c.extend.ensures.items c.extend.ensures.same c.len-start.ensures n
    (omega (arith, c.len-start.ensures, c.args.self.now.short)) (omega (arith, c.if-count-start.false))
    c.args.self.now.behind in
    let k = subst (λ ws. all_known (first_cell + length (held c.args.self.now.cells))
    (take (length ws - c.args.from) (drop c.args.from ws)) ≡ true) (c.items.ensures ∙ sym c.items-2.ensures)
    (c.knows_all.ensures c.if-not-knows_all.false) in
    let b = many_behind (first_cell + length (held c.args.self.now.cells)) _ _ _ c.args.tag c.len-start.result _
    c.in_ok-extend.ensures.items c.len-start.ensures n k in
    let p = cells_after _ _ _ _ _ c.push.ensures.items c.push.ensures.same
    (omega (arith, c.next.ensures, c.if-next-ge-FIRST_REFERENCE.false)) l.1 b in
    record {
      few = p.0;
      short = l.0;
      behind = p.1;
      those_numbered = c.args.self.now.those_numbered;
      the_others = c.args.self.now.the_others;
    }

pub returns-clause-kept : goal.returns-clause-kept
unfolding stored
returns-clause-kept c =
    list_kept (stored c.args.self.now) _ _ _ c.in_ok-push.ensures.items c.in_ok-extend.ensures.items refl
    c.args.self.now.behind

pub returns-clause-made : goal.returns-clause-made
unfolding stored
returns-clause-made c =
    λ F h. list_made F (stored c.args.self.now) _ c.args.tag _ c.next-id.result c.len-start.result _
    c.in_ok-push.ensures.items c.in_ok-extend.ensures.items c.len-start.ensures (rest_length c.args.from _ _ _ c.len.ensures c.items-2.ensures) c.next-id.ensures h
    ∙ ap (λ ids. node (tag_of c.args.tag) (row F ids) end)
    (rest_taken c.args.from _ c.items-2.result.now refl ∙ ap (drop c.args.from) c.items-2.ensures)

pub returns-in_err-push-clause-kept : goal.returns-in_err-push-clause-kept
unfolding stored
returns-in_err-push-clause-kept c =
    list_longer (stored c.args.self.now) _ _ c.in_err-push.ensures.same c.in_ok-extend.ensures.items refl
    c.args.self.now.behind
