use Rattle.std.proofs.Common.{Some, sym}
use Rattle.demangle_leaf_nodes.specs.TreeLeaves.{tag_of_unqualified_name, tree_of_unqualified_name}
use Rattle.demangle_printing.specs.Lines.{line_steps}
use Rattle.demangle_printing.specs.Reader.{run}
use Rattle.demangle_meets.proofs.Acts.{meets_done, meets_text}
use Rattle.demangle_meets.proofs.Parts.{meets_at, meets_part}
use Rattle.demangle_meets.specs.Place.{world_of}
use Rattle.demangle_scope.specs.ScopeOf.{scope_of}
use Rattle.demangle_print_unqualified.specs.Pieces.{in_event}
use Rattle.demangle_print_unqualified.proofs.unqualified.name_and_tags.Goals as goal

pub returns-in-Operator : goal.returns-in-Operator
unfolding line_steps
returns-in-Operator g c =
    meets_at (λ x. run (world_of (g.B.Below.at c.args.below).refers) (Some (tree_of_unqualified_name x))
    (scope_of c.args.scope)
    (in_event (line_steps (tag_of_unqualified_name x))))
    (sym c.in-Operator.is) (
    meets_text c.text.ensures (meets_part c.operator_name.ensures (meets_part (c.abi_tags.ensures
    (scope_of c.args.scope)) meets_done)))

pub returns-in-CtorDtor : goal.returns-in-CtorDtor
unfolding line_steps
returns-in-CtorDtor g c =
    meets_at (λ x. run (world_of (g.B.Below.at c.args.below).refers) (Some (tree_of_unqualified_name x))
    (scope_of c.args.scope)
    (in_event (line_steps (tag_of_unqualified_name x))))
    (sym c.in-CtorDtor.is) (
    meets_part c.ctor_dtor_name.ensures (meets_part (c.abi_tags-in-CtorDtor.ensures
    (scope_of c.args.scope)) meets_done))

pub returns-in-Source : goal.returns-in-Source
unfolding line_steps
returns-in-Source g c =
    meets_at (λ x. run (world_of (g.B.Below.at c.args.below).refers) (Some (tree_of_unqualified_name x))
    (scope_of c.args.scope)
    (in_event (line_steps (tag_of_unqualified_name x))))
    (sym c.in-Source.is) (
    meets_part (c.source_name.ensures (scope_of c.args.scope)) (meets_part (c.abi_tags-in-Source.ensures
    (scope_of c.args.scope)) meets_done))

pub returns-in-LocalSourceName : goal.returns-in-LocalSourceName
unfolding line_steps
returns-in-LocalSourceName g c =
    meets_at (λ x. run (world_of (g.B.Below.at c.args.below).refers) (Some (tree_of_unqualified_name x))
    (scope_of c.args.scope)
    (in_event (line_steps (tag_of_unqualified_name x))))
    (sym c.in-LocalSourceName.is) (
    meets_part (c.source_name-in-LocalSourceName.ensures (scope_of c.args.scope))
    (meets_part (c.abi_tags-in-LocalSourceName.ensures (scope_of c.args.scope)) meets_done))

pub returns-in-UnnamedType : goal.returns-in-UnnamedType
unfolding line_steps
returns-in-UnnamedType g c =
    meets_at (λ x. run (world_of (g.B.Below.at c.args.below).refers) (Some (tree_of_unqualified_name x))
    (scope_of c.args.scope)
    (in_event (line_steps (tag_of_unqualified_name x))))
    (sym c.in-UnnamedType.is) (
    meets_part (c.unnamed_type_name.ensures (scope_of c.args.scope)) (meets_part
    (c.abi_tags-in-UnnamedType.ensures (scope_of c.args.scope)) meets_done))

pub returns-in-ClosureType : goal.returns-in-ClosureType
unfolding line_steps
returns-in-ClosureType g c =
    meets_at (λ x. run (world_of (g.B.Below.at c.args.below).refers) (Some (tree_of_unqualified_name x))
    (scope_of c.args.scope)
    (in_event (line_steps (tag_of_unqualified_name x))))
    (sym c.in-ClosureType.is) (
    meets_part c.closure_type_name.ensures (meets_part (c.abi_tags-in-ClosureType.ensures
    (scope_of c.args.scope)) meets_done))
