use Rattle.std.proofs.Common.{Some, refl, sym}
use Rattle.demangle_core.specs.Core.{node}
use Rattle.demangle_leaf_nodes.specs.TreeLeaves.{tree_of_option}
use Rattle.demangle_nodes.specs.TreeNodes.{boxed_name, tree_of_name}
use Rattle.demangle_printing.specs.Lines.Names.{in_local}
use Rattle.demangle_printing.specs.Reader.{run}
use Rattle.demangle_meets.specs.Place.{world_of}
use Rattle.demangle_meets.proofs.Acts.{meets_ask, meets_block, meets_done, meets_text}
use Rattle.demangle_meets.proofs.Parts.{meets_at, prints_at, prints_same}
use Rattle.demangle_scope.specs.ScopeOf.{scope_of}
use Rattle.demangle_print_parts.specs.Pieces.{row}
use Rattle.demangle_print_names.proofs.Handles.{optional_name}
use Rattle.demangle_print_names.proofs.local.in_local.Goals as goal

pub returns-in-Some : goal.returns-in-Some
returns-in-Some g c =
    λ t x. meets_at
    (λ m. run (world_of (g.B.Below.at c.args.below).refers) (Some (row (node t x (tree_of_option boxed_name m))))
    (scope_of c.args.scope) in_local)
    (sym c.in-Some.is)
    (meets_ask (λ _. refl)
    (meets_text c.text.ensures (meets_block
    (prints_same {x = tree_of_option boxed_name (Some c.in-Some.name)}
    (optional_name (g.B.Below.at c.args.below).refers c.in-Some.name.value)
    (prints_at tree_of_name (sym c.deref.ensures) c.name.ensures)).meets meets_done)) meets_done)

pub returns-in-None : goal.returns-in-None
returns-in-None g c =
    λ t x. meets_at
    (λ m. run (world_of (g.B.Below.at c.args.below).refers) (Some (row (node t x (tree_of_option boxed_name m))))
    (scope_of c.args.scope) in_local)
    (sym c.in-None.is) (meets_ask (λ _. refl) (meets_text c.text-in-None.ensures meets_done) meets_done)
