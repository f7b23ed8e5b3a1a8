use Rattle.std.proofs.Common.{map, sym}
use Rattle.demangle_nodes.specs.TreeNodes.{tree_of_template_arg}
use Rattle.demangle_printing.specs.Rules.{members_of}
use Rattle.demangle_meets.specs.Place.{world_of}
use Rattle.demangle_meets.proofs.Acts.{meets_done}
use Rattle.demangle_meets.proofs.Parts.{meets_at}
use Rattle.demangle_scope.specs.ScopeOf.{scope_of}
use Rattle.demangle_print_parts.proofs.Commas.{drops_one, is_empty, members_begin, members_next, members_over}
use Rattle.demangle_print_parts.proofs.arguments.members.Goals as goal

pub returns-in_default : goal.returns-in_default
returns-in_default g c =
    meets_at
    (λ xs. members_of (world_of (g.B.Below.at c.args.below).refers) c.args.args.now.1 (map tree_of_template_arg xs)
    (scope_of c.args.scope))
    (sym (is_empty c.args.args.now.0.items (rw c.deref.ensures.value at c.in_default.ensures.cases))) meets_done

pub loop-index-init : goal.loop-index-init
loop-index-init g c =
    members_begin tree_of_template_arg _ c.args.args.now.0.items _ c.in-Some.first.now
    (rw c.scope_in_arg.ensures.marked at c.template_arg.ensures)
    (rw c.deref.ensures.value at c.in-Some.ensures.cases.0)

pub loop-index-preserved : goal.loop-index-preserved
loop-index-preserved g c =
    members_next tree_of_template_arg c.args.args.now.0.items c.loop-index.index c.index.result.now
    c.loop-index.invariant c.text.ensures
    (rw c.scope_in_arg-in-loop-index.ensures.marked at c.template_arg-in-loop-index.ensures)
    (drops_one _ _ _ c.index.ensures
    (rw (c.len-index-end.ensures, ← c.deref.ensures.len, c.deref.ensures.value) at c.loop-index-test.true))

pub returns : goal.returns
returns g c = members_over tree_of_template_arg _ _ c.loop-index.invariant
    (rw (c.len-index-end.ensures, ← c.deref.ensures.len, c.deref.ensures.value) at c.loop-index-test.false)
