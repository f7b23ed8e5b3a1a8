use Rattle.std.proofs.Common.{drop, map, Some, sym, ◌∙◌, ap}
use Rattle.demangle_core.specs.Lookups.{as_prefix, template_args}
use Rattle.demangle_leaf_nodes.specs.TreeLeaves.{parts_of_bare_function_type, tree_of_type_handle}
use Rattle.demangle_nodes.specs.TreeNodes.{parts_of_encoding, tree_of_encoding, tree_of_name, tree_of_template_args}
use Rattle.demangle_printing.specs.World.{listed}
use Rattle.demangle_printing.specs.Scope.{with_args}
use Rattle.demangle_printing.specs.Rules.{parameters_with}
use Rattle.demangle_printing.specs.Parameters.{parameters_act}
use Rattle.demangle_printing.specs.Print.{body}
use Rattle.demangle_meets.specs.Place.{world_of}
use Rattle.demangle_meets.proofs.Parts.{inside_at, meets_at}
use Rattle.demangle_scope.specs.ScopeOf.{scope_of}
use Rattle.demangle_print_parts.proofs.Listed.{types_listed}
use Rattle.demangle_print_inner.proofs.Lists.{types_behind}
use Rattle.demangle_print_inner.proofs.inside.function_inside.Goals as goal

pub returns-in-None : goal.returns-in-None
unfolding body parts_of_encoding
returns-in-None g c =
    inside_at tree_of_encoding c.requires.is (record {
      meets = meets_at
          (λ o. body (world_of (g.B.Below.at c.args.below).refers) (parameters_with (world_of
          (g.B.Below.at c.args.below).refers) o (listed (world_of (g.B.Below.at c.args.below).refers) (Some
          (parts_of_bare_function_type c.args.types.now))) (scope_of c.args.scope)).0
          (parameters_with (world_of (g.B.Below.at c.args.below).refers) o (listed (world_of
          (g.B.Below.at c.args.below).refers) (Some (parts_of_bare_function_type c.args.types.now)))
          (scope_of c.args.scope)).1)
          (c.in-None.ensures ∙ ap (λ t. template_args as_prefix t (tree_of_name c.args.name.now)) c.subs.ensures)
          (meets_at (λ l. parameters_act (world_of (g.B.Below.at c.args.below).refers) l (scope_of c.args.scope))
          (ap (map tree_of_type_handle) c.as_slice.ensures.value
          ∙ sym (types_listed (g.B.Below.at c.args.below).refers c.args.types.now))
          c.parameters_steps.ensures);
    })

pub returns-in-Some : goal.returns-in-Some
unfolding body parts_of_encoding
returns-in-Some g c =
    inside_at tree_of_encoding c.requires.is (record {
      meets = meets_at
          (λ o. body (world_of (g.B.Below.at c.args.below).refers) (parameters_with (world_of
          (g.B.Below.at c.args.below).refers) o (listed (world_of (g.B.Below.at c.args.below).refers) (Some
          (parts_of_bare_function_type c.args.types.now))) (scope_of c.args.scope)).0
          (parameters_with (world_of (g.B.Below.at c.args.below).refers) o (listed (world_of
          (g.B.Below.at c.args.below).refers) (Some (parts_of_bare_function_type c.args.types.now)))
          (scope_of c.args.scope)).1)
          (c.in-Some.ensures ∙ ap (λ t. template_args as_prefix t (tree_of_name c.args.name.now)) c.subs.ensures)
          (meets_at
          (λ l. parameters_act (world_of (g.B.Below.at c.args.below).refers) l (with_args (Some
          (tree_of_template_args c.in-Some.args.now)) (scope_of c.args.scope)))
          (ap (map tree_of_type_handle) (c.behind_result.ensures ∙ ap (drop 1) c.as_slice-in-Some.ensures.value)
          ∙ types_behind (g.B.Below.at c.args.below).refers c.args.types.now)
          (rw c.scope_push-inner.ensures.pushed at c.parameters_steps-in-Some.ensures));
    })
