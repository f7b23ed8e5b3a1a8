use Rattle.std.proofs.Common.{◌∙◌, ap, arith, nat_eq, sym}
use Rattle.std.specs.Prelude.{option_map}
use Rattle.demangle_cell_trees.specs.ArenaTrees.{table_of, tree_at}
use Rattle.demangle_cell_trees.proofs.Printed.{refers_to_held}
use Rattle.demangle_cell_trees.proofs.held.optional_printed.Goals as goal

pub returns-then-is_referring : goal.returns-then-is_referring
returns-then-is_referring c =
    λ b input. refers_to_held c.args.arena.now c.args.subs.now c.args.at c.args.tag c.args.part
    c.component_printed.result (option_map (tree_at c.args.subs.now) c.referred.result) (table_of c.args.subs.now) input
    c.requires (ap (λ n. nat_eq n 0) (sym c.number_of_tag.ensures ∙ c.if-number_of_tag-eq0.true))
    (omega (arith, c.ranges.part.fits)) (c.referred.ensures c.args.arena.now input)
    (λ x l. c.component_printed.ensures.handle b (table_of c.args.subs.now) input x l)
