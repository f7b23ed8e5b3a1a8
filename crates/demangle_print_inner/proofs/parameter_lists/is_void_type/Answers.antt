use Rattle.std.proofs.Common.{sym, ◌∙◌, ap}
use Rattle.demangle_core.specs.Core.{N}
use Rattle.demangle_core.specs.Table.{entry_at}
use Rattle.demangle_leaf_nodes.specs.TreeLeaves.{tree_of_type_handle}
use Rattle.demangle_meets.specs.Place.{world_of}
use Rattle.demangle_print_parts.proofs.Components.{no_builtin_found, no_builtin_there}
use Rattle.demangle_print_inner.specs.Kinds.{is_void_tree}
use Rattle.demangle_print_inner.proofs.Voids.{no_void, void_builtin}
use Rattle.demangle_print_inner.proofs.parameter_lists.is_void_type.Goals as goal

pub returns-in-Builtin : goal.returns-in-Builtin
returns-in-Builtin g c =
    c.is_void_builtin.ensures ∙ (void_builtin (g.B.Below.at c.args.below).refers c.in-Builtin.builtin
    ∙ ap (λ x. is_void_tree (world_of (g.B.Below.at c.args.below).refers) (tree_of_type_handle x))
    (sym c.in-Builtin.is))

pub returns-in-None : goal.returns-in-None
returns-in-None g c =
    no_builtin_there 0 (g.B.Below.at c.args.below).refers c.in-BackReference.idx
    (c.in-None.ensures ∙ ap (entry_at N c.in-BackReference.idx) c.subs-subs.ensures)
    ∙ ap (λ x. is_void_tree (world_of (g.B.Below.at c.args.below).refers) (tree_of_type_handle x))
    (sym c.in-BackReference.is)

pub returns-in-Some : goal.returns-in-Some
returns-in-Some g c =
    no_builtin_found 0 (g.B.Below.at c.args.below).refers c.in-BackReference.idx _
    (c.in-Some.ensures ∙ ap (entry_at N c.in-BackReference.idx) c.subs-subs.ensures)
    ∙ ap (λ x. is_void_tree (world_of (g.B.Below.at c.args.below).refers) (tree_of_type_handle x))
    (sym c.in-BackReference.is)

pub returns-in_default : goal.returns-in_default
returns-in_default g c =
    no_void (g.B.Below.at c.args.below).refers c.args.node.now c.in_default.not-Builtin c.in_default.not-BackReference
