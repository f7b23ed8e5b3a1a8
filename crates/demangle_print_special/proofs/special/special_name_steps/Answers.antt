use Rattle.std.proofs.Common.{Some, ap, codes, map, sym, ◌∙◌}
use Rattle.demangle_leaf_nodes.specs.TreeLeaves.{parts_of_resource_name, tag_of_resource_name, tree_of_call_offset}
use Rattle.demangle_leaf_nodes.specs.TreeLeaves.{tree_of_resource_name}
use Rattle.demangle_nodes.proofs.Parts.{special_name_construction_vtable, special_name_guard}
use Rattle.demangle_nodes.proofs.Parts.{special_name_guard_temporary, special_name_java_resource}
use Rattle.demangle_nodes.proofs.Parts.{special_name_non_transaction_clone, special_name_tls_init}
use Rattle.demangle_nodes.proofs.Parts.{special_name_tls_wrapper, special_name_transaction_clone}
use Rattle.demangle_nodes.proofs.Parts.{special_name_typeinfo, special_name_typeinfo_function}
use Rattle.demangle_nodes.proofs.Parts.{special_name_typeinfo_name, special_name_virtual_override_thunk}
use Rattle.demangle_nodes.proofs.Parts.{special_name_virtual_override_thunk_covariant, special_name_virtual_table}
use Rattle.demangle_nodes.proofs.Parts.{special_name_vtt}
use Rattle.demangle_nodes.specs.TreeNodes.{parts_of_special_name, tag_of_special_name, tree_of_encoding}
use Rattle.demangle_printing.specs.Act.{block, done, text}
use Rattle.demangle_printing.specs.Items.{itself}
use Rattle.demangle_printing.specs.Lines.{line_steps}
use Rattle.demangle_printing.specs.Print.{body}
use Rattle.demangle_printing.specs.Rules.{line_of, quoted}
use Rattle.demangle_printing.specs.Step.{Step}
use Rattle.demangle_meets.proofs.Parts.{line_parts, meets_at}
use Rattle.demangle_meets.specs.Place.{world_of}
use Rattle.demangle_scope.specs.ScopeOf.{scope_of}
use Rattle.demangle_print_parts.specs.Pieces.{each_of}
use Rattle.demangle_print_parts.proofs.Listed.{trees_listed}
use Rattle.demangle_print_special.proofs.special.special_name_steps.Goals as goal

pub returns-in-VirtualTable : goal.returns-in-VirtualTable
unfolding body line_steps
returns-in-VirtualTable g c =
    line_parts tag_of_special_name parts_of_special_name c.in-VirtualTable.is
    (special_name_virtual_table _) (record { meets = c.virtual_table.ensures })

pub returns-in-Vtt : goal.returns-in-Vtt
unfolding body line_steps
returns-in-Vtt g c =
    line_parts tag_of_special_name parts_of_special_name c.in-Vtt.is
    (special_name_vtt _) (record { meets = c.vtt.ensures })

pub returns-in-Typeinfo : goal.returns-in-Typeinfo
unfolding body line_steps
returns-in-Typeinfo g c =
    line_parts tag_of_special_name parts_of_special_name c.in-Typeinfo.is
    (special_name_typeinfo _) (record { meets = c.of_type.ensures })

pub returns-in-TypeinfoName : goal.returns-in-TypeinfoName
unfolding body line_steps
returns-in-TypeinfoName g c =
    line_parts tag_of_special_name parts_of_special_name c.in-TypeinfoName.is
    (special_name_typeinfo_name _) (record { meets = c.of_type-in-TypeinfoName.ensures })

pub returns-in-TypeinfoFunction : goal.returns-in-TypeinfoFunction
unfolding body line_steps
returns-in-TypeinfoFunction g c =
    line_parts tag_of_special_name parts_of_special_name c.in-TypeinfoFunction.is
    (special_name_typeinfo_function _) (record { meets = c.of_type-in-TypeinfoFunction.ensures })

pub returns-in-VirtualOverrideThunk : goal.returns-in-VirtualOverrideThunk
unfolding body line_steps
returns-in-VirtualOverrideThunk g c =
    line_parts tag_of_special_name parts_of_special_name c.in-VirtualOverrideThunk.is
    (special_name_virtual_override_thunk _ _) (record {
      meets =
          meets_at (λ x. quoted "{virtual override thunk("
          (block (line_of (world_of (g.B.Below.at c.args.below).refers) (Some
          (tree_of_call_offset c.in-VirtualOverrideThunk.this)) (scope_of c.args.scope))
          (quoted ", " (block (line_of (world_of (g.B.Below.at c.args.below).refers) (Some (tree_of_encoding x))
          (scope_of c.args.scope)) (quoted ")}" done)))))
          c.deref.ensures c.thunk.ensures;
    })

pub returns-in-VirtualOverrideThunkCovariant : goal.returns-in-VirtualOverrideThunkCovariant
unfolding body line_steps
returns-in-VirtualOverrideThunkCovariant g c =
    line_parts tag_of_special_name parts_of_special_name c.in-VirtualOverrideThunkCovariant.is
    (special_name_virtual_override_thunk_covariant _ _ _) (record {
      meets =
          meets_at (λ x. quoted "{virtual override thunk("
          (block (line_of (world_of (g.B.Below.at c.args.below).refers) (Some
          (tree_of_call_offset c.in-VirtualOverrideThunkCovariant.this)) (scope_of c.args.scope))
          (quoted ", " (block (line_of (world_of (g.B.Below.at c.args.below).refers) (Some
          (tree_of_call_offset c.in-VirtualOverrideThunkCovariant.returned)) (scope_of c.args.scope))
          (quoted ", " (block (line_of (world_of (g.B.Below.at c.args.below).refers) (Some (tree_of_encoding x))
          (scope_of c.args.scope)) (quoted ")}" done)))))))
          c.deref-in-VirtualOverrideThunkCovariant.ensures c.covariant_thunk.ensures;
    })

pub returns-in-Guard : goal.returns-in-Guard
unfolding body line_steps
returns-in-Guard g c =
    line_parts tag_of_special_name parts_of_special_name c.in-Guard.is
    (special_name_guard _) (record { meets = c.of_name.ensures })

pub returns-in-GuardTemporary : goal.returns-in-GuardTemporary
unfolding body line_steps
returns-in-GuardTemporary g c =
    line_parts tag_of_special_name parts_of_special_name c.in-GuardTemporary.is
    (special_name_guard_temporary _ _) (record { meets = c.temporary.ensures })

pub returns-in-ConstructionVtable : goal.returns-in-ConstructionVtable
unfolding body line_steps
returns-in-ConstructionVtable g c =
    line_parts tag_of_special_name parts_of_special_name c.in-ConstructionVtable.is
    (special_name_construction_vtable _ _ _) (record { meets = c.construction_vtable.ensures })

pub returns-in-TlsInit : goal.returns-in-TlsInit
unfolding body line_steps
returns-in-TlsInit g c =
    line_parts tag_of_special_name parts_of_special_name c.in-TlsInit.is
    (special_name_tls_init _) (record { meets = c.of_name-in-TlsInit.ensures })

pub returns-in-TlsWrapper : goal.returns-in-TlsWrapper
unfolding body line_steps
returns-in-TlsWrapper g c =
    line_parts tag_of_special_name parts_of_special_name c.in-TlsWrapper.is
    (special_name_tls_wrapper _) (record { meets = c.of_name-in-TlsWrapper.ensures })

pub returns-in-JavaResource : goal.returns-in-JavaResource
unfolding body line_steps
returns-in-JavaResource g c =
    line_parts {sc = scope_of c.args.scope} tag_of_special_name parts_of_special_name c.in-JavaResource.is
    (special_name_java_resource c.in-JavaResource.resources) (record {
      meets =
          meets_at
          (λ xs. quoted "java resource "
          (block (each_of (world_of (g.B.Below.at c.args.below).refers) (itself Step.done) xs (scope_of c.args.scope))
          done))
          (ap (map tree_of_resource_name) c.as_slice.ensures.value
          ∙ sym (trees_listed (g.B.Below.at c.args.below).refers tag_of_resource_name parts_of_resource_name
          c.in-JavaResource.resources.items))
          (c.java_resource.ensures (scope_of c.args.scope));
    })

pub returns-in-TransactionClone : goal.returns-in-TransactionClone
unfolding body line_steps
returns-in-TransactionClone g c =
    line_parts tag_of_special_name parts_of_special_name c.in-TransactionClone.is
    (special_name_transaction_clone _) (record {
      meets =
          meets_at (λ x. text (codes "transaction clone for ") (block (line_of (world_of
          (g.B.Below.at c.args.below).refers) (Some (tree_of_encoding x)) (scope_of c.args.scope)) done))
          c.deref-in-TransactionClone.ensures c.of_encoding.ensures;
    })

pub returns-in-NonTransactionClone : goal.returns-in-NonTransactionClone
unfolding body line_steps
returns-in-NonTransactionClone g c =
    line_parts tag_of_special_name parts_of_special_name c.in-NonTransactionClone.is
    (special_name_non_transaction_clone _) (record {
      meets =
          meets_at (λ x. text (codes "non-transaction clone for ") (block (line_of (world_of
          (g.B.Below.at c.args.below).refers) (Some (tree_of_encoding x)) (scope_of c.args.scope)) done))
          c.deref-in-NonTransactionClone.ensures c.of_encoding-in-NonTransactionClone.ensures;
    })
