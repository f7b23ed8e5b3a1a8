use Rattle.std.proofs.Common.{Some, sym}
use Rattle.demangle_leaf_nodes.specs.TreeLeaves.{tree_of_option}
use Rattle.demangle_entries.specs.TreeEntries.{tree_of_exception_spec}
use Rattle.demangle_printing.specs.Act.{block, done, space}
use Rattle.demangle_printing.specs.Rules.{line_of}
use Rattle.demangle_meets.specs.Place.{world_of}
use Rattle.demangle_meets.proofs.Acts.{meets_done, meets_space}
use Rattle.demangle_meets.proofs.Parts.{meets_at, meets_part, prints_same}
use Rattle.demangle_scope.specs.ScopeOf.{scope_of}
use Rattle.demangle_print_parts.specs.Pieces.{when_there}
use Rattle.demangle_print_types.proofs.Itself.{exception_there}
use Rattle.demangle_print_types.proofs.functions.exception.Goals as goal

pub returns-in-Some : goal.returns-in-Some
returns-in-Some g c =
    meets_at
    (λ o. when_there (world_of (g.B.Below.at c.args.below).refers) (tree_of_option tree_of_exception_spec o)
    (space (block (line_of (world_of (g.B.Below.at c.args.below).refers) (Some
    (tree_of_option tree_of_exception_spec o)) (scope_of c.args.scope)) done)))
    (sym c.in-Some.is)
    (meets_space c.space.ensures
    (meets_part {x = tree_of_option tree_of_exception_spec (Some c.in-Some.spec)}
    (prints_same (exception_there _ c.in-Some.spec) c.exception_spec.ensures) meets_done))

pub returns-in_default : goal.returns-in_default
returns-in_default g c =
    meets_at
    (λ o. when_there (world_of (g.B.Below.at c.args.below).refers) (tree_of_option tree_of_exception_spec o)
    (space (block (line_of (world_of (g.B.Below.at c.args.below).refers) (Some
    (tree_of_option tree_of_exception_spec o)) (scope_of c.args.scope)) done)))
    (sym c.in_default.is) meets_done
