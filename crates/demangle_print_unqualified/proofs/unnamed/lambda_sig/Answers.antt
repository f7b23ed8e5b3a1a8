use Rattle.std.proofs.Common.{ap, false, map, refl, sym, true, ◌∙◌}
use Rattle.demangle_leaf_nodes.specs.TreeLeaves.{parts_of_type_handle, tag_of_type_handle, tree_of_type_handle}
use Rattle.demangle_printing.specs.Lines.{line_steps}
use Rattle.demangle_printing.specs.Print.{body}
use Rattle.demangle_printing.specs.Rules.{lines_of}
use Rattle.demangle_printing.specs.State.{lambda}
use Rattle.demangle_meets.proofs.Acts.{meets_block, meets_done, meets_set}
use Rattle.demangle_meets.proofs.Parts.{meets_at, prints_deep, prints_node}
use Rattle.demangle_meets.specs.Place.{world_of}
use Rattle.demangle_scope.specs.ScopeOf.{scope_of}
use Rattle.demangle_print_parts.proofs.Listed.{trees_listed}
use Rattle.demangle_print_unqualified.proofs.unnamed.lambda_sig.Goals as goal

pub returns-in_default : goal.returns-in_default
returns-in_default g c = prints_deep refl c.in_default.ensures

pub returns : goal.returns
unfolding body line_steps
returns g c =
    prints_node refl c.in-Some.ensures.0
    (meets_set {i = lambda} {v = true} c.turn.ensures
    (meets_block
    (meets_at (λ xs. lines_of (world_of (g.B.Below.at c.in-Some.below).refers) xs (scope_of c.args.scope))
    (ap (map tree_of_type_handle) c.as_slice.ensures.value ∙ sym (trees_listed
    (g.B.Below.at c.in-Some.below).refers tag_of_type_handle parts_of_type_handle c.args.node.now.0.items))
    c.type_list.ensures)
    (meets_set {i = lambda} {v = false} c.turn-2.ensures meets_done)))
