use Rattle.std.proofs.Common.{map, sym}
use Rattle.demangle_leaf_nodes.specs.TreeLeaves.{tree_of_type_handle}
use Rattle.demangle_meets.proofs.Acts.{meets_block, meets_text}
use Rattle.demangle_meets.proofs.Lines.{meets_parameters}
use Rattle.demangle_meets.proofs.Sifted.{meets_sift}
use Rattle.demangle_scope.specs.ScopeOf.{scope_of}
use Rattle.demangle_print_inner.proofs.parameter_lists.parameters_steps.Goals as goal

pub returns : goal.returns
returns g c =
    meets_parameters (map tree_of_type_handle c.args.types.now) (scope_of c.args.scope) _
    (λ _. sym (c.wanted-parentheses.ensures _))
    (meets_block (c.opening.ensures _)
    (meets_sift c.sift.ensures (rw c.kept-before.ensures at c.unkeep.ensures)
    (meets_block (c.closing.ensures _) (meets_text c.text.ensures c.list_of_parameters.ensures))))
