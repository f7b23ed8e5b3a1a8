use Rattle.demangle_leaves_to_cells.proofs.Puts.{none_waits}
use Rattle.demangle_nodes_to_cells.proofs.entries.function_type_to.Goals as goal

pub returns : goal.returns
returns c = c.gather.ensures _ _ c.waiting-from.ensures (c.wait-until_ref_qualifier.ensures _ _ _ _
    (c.wait-until_bare.ensures _ _ _ _ (c.wait-until_extern_c.ensures _ _ _ _ (c.wait-until_transaction_safe.ensures _ _
    _ _ (c.wait-until_exception_spec.ensures _ _ _ _ (c.wait-until_cv_qualifiers.ensures _ _ _ _ (none_waits _)
    c.cv_qualifiers_to-cv_qualifiers.ensures) c.optional_exception_spec_to-exception_spec.ensures)
    c.flag_to-transaction_safe.ensures) c.flag_to-extern_c.ensures) c.bare_function_type_to-bare.ensures)
    c.optional_ref_qualifier_to-ref_qualifier.ensures)
