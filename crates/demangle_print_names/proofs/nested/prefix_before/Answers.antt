use Rattle.std.proofs.Common.{Some, sym}
use Rattle.demangle_leaf_nodes.specs.TreeLeaves.{tree_of_option, tree_of_prefix_handle}
use Rattle.demangle_printing.specs.Act.{block, done}
use Rattle.demangle_printing.specs.Rules.{line_of, quoted}
use Rattle.demangle_meets.specs.Place.{world_of}
use Rattle.demangle_meets.proofs.Acts.{meets_block, meets_done, meets_text}
use Rattle.demangle_meets.proofs.Parts.{meets_at, prints_same}
use Rattle.demangle_scope.specs.ScopeOf.{scope_of}
use Rattle.demangle_print_parts.specs.Pieces.{when_there}
use Rattle.demangle_print_names.proofs.Handles.{optional_prefix}
use Rattle.demangle_print_names.proofs.nested.prefix_before.Goals as goal

pub returns-in-Some : goal.returns-in-Some
returns-in-Some g c =
    meets_at
    (λ m. when_there (world_of (g.B.Below.at c.args.below).refers) (tree_of_option tree_of_prefix_handle m)
    (block (line_of (world_of (g.B.Below.at c.args.below).refers) (Some (tree_of_option tree_of_prefix_handle m))
    (scope_of c.args.scope)) (quoted "::" done)))
    (sym c.in-Some.is)
    (meets_block
    (prints_same {x = tree_of_option tree_of_prefix_handle (Some c.in-Some.handle)}
    (optional_prefix (g.B.Below.at c.args.below).refers c.subs-table.result.now c.subs-table.ensures
    c.in-Some.handle)
    c.prefix_handle.ensures).meets (meets_text c.text.ensures meets_done))

pub returns-in_default : goal.returns-in_default
returns-in_default g c =
    meets_at
    (λ m. when_there (world_of (g.B.Below.at c.args.below).refers) (tree_of_option tree_of_prefix_handle m)
    (block (line_of (world_of (g.B.Below.at c.args.below).refers) (Some (tree_of_option tree_of_prefix_handle m))
    (scope_of c.args.scope)) (quoted "::" done)))
    (sym c.in_default.is) meets_done
