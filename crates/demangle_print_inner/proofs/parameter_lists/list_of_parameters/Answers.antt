use Rattle.std.proofs.Common.{map, refl, sym, ◌∙◌}
use Rattle.demangle_leaf_nodes.specs.TreeLeaves.{tree_of_type_handle}
use Rattle.demangle_printing.specs.Parameters.{parameters_end}
use Rattle.demangle_meets.specs.Place.{world_of}
use Rattle.demangle_meets.proofs.Acts.{meets_ask, meets_done, meets_text}
use Rattle.demangle_meets.proofs.Around.{meets_fence}
use Rattle.demangle_meets.proofs.Parts.{meets_at}
use Rattle.demangle_scope.specs.ScopeOf.{scope_of}
use Rattle.demangle_print_inner.proofs.parameter_lists.list_of_parameters.Goals as goal

pub returns-then-is_void : goal.returns-then-is_void
returns-then-is_void g c =
    meets_at (λ b. parameters_end (world_of (g.B.Below.at c.args.below).refers) b
    (map tree_of_type_handle c.args.types.now) (scope_of c.args.scope))
    (sym c.if-is_void.true ∙ c.is_void.ensures) (meets_text c.text.ensures meets_done)

pub returns : goal.returns
returns g c =
    meets_at (λ b. parameters_end (world_of (g.B.Below.at c.args.below).refers) b
    (map tree_of_type_handle c.args.types.now) (scope_of c.args.scope)) (sym c.if-is_void.false ∙ c.is_void.ensures)
    (meets_ask (λ _. refl) (c.explicit_object.ensures _)
    (meets_fence c.fence-items.ensures c.type_list.ensures c.unfence.ensures
    (meets_text c.text-2.ensures (meets_ask (λ _. refl) c.all_waiting.ensures meets_done))))
