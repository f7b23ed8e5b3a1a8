use Rattle.std.proofs.Common.{map, refl, sym, ◌∙◌, ap}
use Rattle.demangle_leaf_nodes.specs.TreeLeaves.{tree_of_type_handle}
use Rattle.demangle_printing.specs.Print.{body}
use Rattle.demangle_printing.specs.Lines.{line_steps}
use Rattle.demangle_meets.specs.Place.{world_of}
use Rattle.demangle_meets.proofs.Acts.{meets_done}
use Rattle.demangle_meets.proofs.Around.{meets_held}
use Rattle.demangle_meets.proofs.Parts.{meets_found, prints_deep, prints_node}
use Rattle.demangle_scope.specs.ScopeOf.{scope_of}
use Rattle.demangle_print_types.specs.Pieces.{first_line}
use Rattle.demangle_print_parts.proofs.Listed.{types_listed}
use Rattle.demangle_print_types.proofs.functions.bare_function_type.Goals as goal

pub returns-in_default : goal.returns-in_default
returns-in_default g c = prints_deep refl c.in_default.ensures

pub returns : goal.returns
unfolding body line_steps
returns g c =
    prints_node refl c.in-Some.ensures.0
    (meets_held (rw c.level.ensures at c.hold.ensures)
    (meets_found (λ l. first_line (world_of (g.B.Below.at c.in-Some.below).refers) l (scope_of c.args.scope))
    (ap (map tree_of_type_handle) c.as_slice.ensures.value
    ∙ sym (types_listed (g.B.Below.at c.in-Some.below).refers c.args.node.now))
    c.first_type.ensures meets_done)
    c.close_spaced.ensures meets_done)
