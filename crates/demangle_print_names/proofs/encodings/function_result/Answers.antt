use Rattle.std.proofs.Common.{Some, is_some, not, sym, ◌&&◌, ◌∙◌}
use Rattle.demangle_core.specs.Lookups.{as_prefix}
use Rattle.demangle_nodes.specs.TreeNodes.{tree_of_name}
use Rattle.demangle_printing.specs.State.{is_on, returns}
use Rattle.demangle_printing.specs.Reader.{is_special_tree, run}
use Rattle.demangle_printing.specs.Rules.{args_of}
use Rattle.demangle_meets.specs.Place.{world_of}
use Rattle.demangle_meets.proofs.Acts.{meets_block, meets_choose_off, meets_choose_on, meets_done, meets_text}
use Rattle.demangle_meets.proofs.Parts.{meets_at}
use Rattle.demangle_scope.specs.ScopeOf.{scope_of}
use Rattle.demangle_print_unqualified.specs.Pieces.{result_shown}
use Rattle.demangle_print_names.proofs.Functions.{function_tree}
use Rattle.demangle_print_names.proofs.encodings.function_result.Goals as goal

pub returns-then-has_result : goal.returns-then-has_result
returns-then-has_result g c =
    meets_at (λ z. run (world_of (g.B.Below.at c.args.below).refers) (Some z) (scope_of c.args.scope) result_shown)
    (sym (function_tree c.args.node.now c.args.name.now c.args.types.now c.requires.is))
    (meets_choose_on
    (λ s. is_some (args_of (world_of (g.B.Below.at c.args.below).refers) as_prefix (Some
    (tree_of_name c.args.name.now))) &&
    (is_on returns s.flags &&
    not (is_special_tree (world_of (g.B.Below.at c.args.below).refers) (Some (tree_of_name c.args.name.now))))) _
    (λ _. sym (rw (c.subs.ensures, c.is_on.ensures) at c.has_result-has_result.ensures) ∙ c.if-has_result.true)
    (meets_block c.first_type.ensures (meets_text c.text.ensures meets_done)) meets_done)

pub returns-else-has_result : goal.returns-else-has_result
returns-else-has_result g c =
    meets_at (λ z. run (world_of (g.B.Below.at c.args.below).refers) (Some z) (scope_of c.args.scope) result_shown)
    (sym (function_tree c.args.node.now c.args.name.now c.args.types.now c.requires.is))
    (meets_choose_off
    (λ s. is_some (args_of (world_of (g.B.Below.at c.args.below).refers) as_prefix (Some
    (tree_of_name c.args.name.now))) &&
    (is_on returns s.flags &&
    not (is_special_tree (world_of (g.B.Below.at c.args.below).refers) (Some (tree_of_name c.args.name.now))))) _
    (λ _. sym (rw (c.subs.ensures, c.is_on.ensures) at c.has_result-has_result.ensures) ∙ c.if-has_result.false)
    meets_done meets_done)
