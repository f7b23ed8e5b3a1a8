use Rattle.std.proofs.Common.{map, sym}
use Rattle.std.proofs.lemmas.List.{nil_from_length}
use Rattle.demangle_leaf_nodes.specs.TreeLeaves.{tree_of_type_handle}
use Rattle.demangle_meets.specs.Place.{world_of}
use Rattle.demangle_meets.proofs.Acts.{meets_done}
use Rattle.demangle_meets.proofs.Parts.{meets_at}
use Rattle.demangle_scope.specs.ScopeOf.{scope_of}
use Rattle.demangle_print_types.specs.Pieces.{first_line}
use Rattle.demangle_print_types.proofs.functions.first_type.Goals as goal

pub returns-in_default : goal.returns-in_default
returns-in_default g c =
    meets_at (λ l. first_line (world_of (g.B.Below.at c.args.below).refers) (map tree_of_type_handle l)
    (scope_of c.args.scope))
    (sym (nil_from_length c.args.types.now c.in_default.ensures.cases)) meets_done

pub returns : goal.returns
returns g c =
    meets_at (λ l. first_line (world_of (g.B.Below.at c.args.below).refers) (map tree_of_type_handle l)
    (scope_of c.args.scope))
    (sym c.in-Some.ensures.cases.0) c.type_handle.ensures.meets
