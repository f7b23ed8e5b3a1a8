use Rattle.std.proofs.Common.{◌∙◌, Some, sym, ap}
use Rattle.demangle_core.specs.Core.{N}
use Rattle.demangle_core.specs.Table.{entry_at}
use Rattle.demangle_leaf_nodes.specs.TreeLeaves.{tree_of_type_handle}
use Rattle.demangle_printing.specs.Arrays.{is_array_tree}
use Rattle.demangle_printing.specs.Rules.{of_handle}
use Rattle.demangle_meets.specs.Place.{world_of}
use Rattle.demangle_print_inner.proofs.ArrayComponents.{array_found, no_array, no_array_found}
use Rattle.demangle_print_inner.proofs.arrays.is_array.Goals as goal

pub returns-in-None : goal.returns-in-None
returns-in-None g c =
    no_array_found (g.B.Below.at c.args.below).refers c.in-BackReference.idx
    (c.in-None.ensures ∙ ap (entry_at N c.in-BackReference.idx) c.subs-subs.ensures)
    ∙ ap (λ x. is_array_tree (world_of (g.B.Below.at c.args.below).refers)
    (of_handle (world_of (g.B.Below.at c.args.below).refers) (Some (tree_of_type_handle x))))
    (sym c.in-BackReference.is)

pub returns-in-Some : goal.returns-in-Some
returns-in-Some g c =
    c.is_array_component.ensures
    ∙ (array_found (g.B.Below.at c.args.below).refers c.in-BackReference.idx _
    (c.in-Some.ensures ∙ ap (entry_at N c.in-BackReference.idx) c.subs-subs.ensures)
    ∙ ap (λ x. is_array_tree (world_of (g.B.Below.at c.args.below).refers)
    (of_handle (world_of (g.B.Below.at c.args.below).refers) (Some (tree_of_type_handle x))))
    (sym c.in-BackReference.is))

pub returns-in_default : goal.returns-in_default
returns-in_default g c =
    no_array (g.B.Below.at c.args.below).refers c.args.handle.now c.in_default.not-BackReference
