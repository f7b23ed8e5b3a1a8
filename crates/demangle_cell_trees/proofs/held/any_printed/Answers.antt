use Rattle.std.proofs.Common.{◌∙◌, ap, refl, sym}
use Rattle.demangle_printing.specs.Rules.{of_handle}
use Rattle.demangle_printing.specs.Trees.{look_in, with_table}
use Rattle.demangle_cell_trees.specs.ArenaTrees.{node_at, table_of}
use Rattle.demangle_cell_trees.proofs.Printed.{optional_seen_as}
use Rattle.demangle_cell_trees.proofs.held.any_printed.Goals as goal

pub returns-in-Optional : goal.returns-in-Optional
returns-in-Optional c =
    λ input. c.held_in.ensures input
    ∙ (ap (of_handle (with_table (table_of c.args.subs.now) input)) (c.part_other-in-Optional.ensures input)
    ∙ sym (optional_seen_as (with_table (table_of c.args.subs.now) input) (node_at c.args.arena.now c.args.at)
    c.in-Node.tag (look_in (table_of c.args.subs.now) input (node_at c.args.arena.now c.args.at)) refl
    (sym (c.shape_other.ensures input) ∙ (sym c.decoded.ensures ∙ c.in-Node.is))
    (sym c.holding_of.ensures ∙ c.in-Optional.is)))
