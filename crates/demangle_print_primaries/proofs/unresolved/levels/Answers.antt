use Rattle.std.proofs.Common.{◌+◌, ◌∷◌, ◌∙◌, drop, sym, ap}
use Rattle.std.proofs.lemmas.List.{drop_more}
use Rattle.demangle_nodes.specs.TreeNodes.{tree_of_unresolved_qualifier_level}
use Rattle.demangle_meets.proofs.Acts.{meets_done, meets_text}
use Rattle.demangle_meets.proofs.Parts.{meets_part}
use Rattle.demangle_scope.specs.ScopeOf.{scope_of}
use Rattle.demangle_print_parts.proofs.Each.{each_begins, each_ends, each_read}
use Rattle.demangle_print_primaries.specs.Levels.{one_level}
use Rattle.demangle_print_primaries.proofs.unresolved.levels.Goals as goal

pub loop-node-init : goal.loop-node-init
loop-node-init g c = each_begins one_level (scope_of c.args.scope) tree_of_unresolved_qualifier_level c.args.nodes.now

pub loop-node-preserved : goal.loop-node-preserved
loop-node-preserved g c =
    each_read one_level (scope_of c.args.scope) tree_of_unresolved_qualifier_level c.args.nodes.now
    c.loop-node.node-index c.node-item.result c.loop-node.invariant
    (meets_part c.unresolved_qualifier_level.ensures (meets_text c.text.ensures meets_done))
    (drop_more c.args.nodes.now c.loop-node.node-index c.node-item.result c.loop-node-test.true
    ∙ ap (λ y. y ∷ drop (c.loop-node.node-index + 1) c.args.nodes.now) (sym c.node-item.is))

pub returns : goal.returns
returns g c =
    each_ends one_level (scope_of c.args.scope) tree_of_unresolved_qualifier_level c.args.nodes.now
    c.loop-node.node-index c.loop-node.invariant c.loop-node-test.false
