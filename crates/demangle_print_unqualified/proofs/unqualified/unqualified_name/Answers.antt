use Rattle.std.proofs.Common.{sym}
use Rattle.demangle_meets.proofs.Acts.{meets_done}
use Rattle.demangle_meets.proofs.Events.{meets_event}
use Rattle.demangle_meets.proofs.Parts.{meets_at, prints_deep, prints_node}
use Rattle.demangle_scope.specs.ScopeOf.{scope_of}
use Rattle.demangle_print_unqualified.proofs.Itself.{unqualified_is_itself, unqualified_line}
use Rattle.demangle_print_unqualified.proofs.unqualified.unqualified_name.Goals as goal

pub returns-in_default : goal.returns-in_default
returns-in_default g c = prints_deep (unqualified_is_itself _ c.args.node.now) c.in_default.ensures

pub returns : goal.returns
returns g c =
    prints_node (unqualified_is_itself _ c.args.node.now) c.in-Some.ensures.0
    (meets_at (λ z. z) (sym (unqualified_line (g.B.Below.at c.in-Some.below).refers c.args.node.now
    (scope_of c.args.scope)))
    (meets_event c.begin_node-told.ensures c.name_and_tags.ensures c.end_node.ensures meets_done))
