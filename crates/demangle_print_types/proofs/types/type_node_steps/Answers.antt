use Rattle.demangle_leaf_nodes.specs.TreeLeaves.{tree_of_type_handle}
use Rattle.demangle_entries.specs.TreeEntries.{tree_of_type_node}
use Rattle.demangle_printing.specs.Print.{body}
use Rattle.demangle_printing.specs.Lines.{line_steps}
use Rattle.demangle_meets.specs.Place.{world_of}
use Rattle.demangle_meets.proofs.Acts.{meets_done}
use Rattle.demangle_meets.proofs.Parts.{line_at, meets_at, meets_part}
use Rattle.demangle_scope.specs.ScopeOf.{scope_of}
use Rattle.demangle_print_types.specs.Pieces.{in_midst}
use Rattle.demangle_print_types.proofs.types.type_node_steps.Goals as goal

pub returns-in-Function : goal.returns-in-Function
unfolding body line_steps
returns-in-Function g c =
    line_at tree_of_type_node c.in-Function.is (record { meets = meets_part c.function_type.ensures meets_done })

pub returns-in-ClassEnum : goal.returns-in-ClassEnum
unfolding body line_steps
returns-in-ClassEnum g c =
    line_at tree_of_type_node c.in-ClassEnum.is (record { meets = meets_part c.class_enum_type.ensures meets_done })

pub returns-in-Array : goal.returns-in-Array
unfolding body line_steps
returns-in-Array g c =
    line_at tree_of_type_node c.in-Array.is (record { meets = meets_part c.array_type.ensures meets_done })

pub returns-in-Vector : goal.returns-in-Vector
unfolding body line_steps
returns-in-Vector g c =
    line_at tree_of_type_node c.in-Vector.is (record { meets = meets_part c.vector_type.ensures meets_done })

pub returns-in-PointerToMember : goal.returns-in-PointerToMember
unfolding body line_steps
returns-in-PointerToMember g c =
    line_at tree_of_type_node c.in-PointerToMember.is
    (record { meets = meets_part c.pointer_to_member_type.ensures meets_done })

pub returns-in-TemplateParam : goal.returns-in-TemplateParam
unfolding body line_steps
returns-in-TemplateParam g c =
    line_at tree_of_type_node c.in-TemplateParam.is
    (record { meets = meets_part c.template_param.ensures meets_done })

pub returns-in-TemplateTemplate : goal.returns-in-TemplateTemplate
unfolding body line_steps
returns-in-TemplateTemplate g c =
    line_at tree_of_type_node c.in-TemplateTemplate.is (record { meets = c.template_template.ensures })

pub returns-in-Decltype : goal.returns-in-Decltype
unfolding body line_steps
returns-in-Decltype g c =
    line_at tree_of_type_node c.in-Decltype.is (record { meets = meets_part c.decltype.ensures meets_done })

pub returns-in-Qualified : goal.returns-in-Qualified
unfolding body line_steps
returns-in-Qualified g c =
    line_at tree_of_type_node c.in-Qualified.is (record {
      meets =
          meets_at
          (λ x. in_midst (world_of (g.B.Below.at c.args.below).refers) (tree_of_type_node x)
          (tree_of_type_handle c.in-Qualified.ty) (scope_of c.args.scope))
          c.in-Qualified.is c.around.ensures;
    })

pub returns-in-VendorExtension : goal.returns-in-VendorExtension
unfolding body line_steps
returns-in-VendorExtension g c =
    line_at tree_of_type_node c.in-VendorExtension.is (record { meets = c.vendor_extension.ensures })

pub returns-in-PointerTo : goal.returns-in-PointerTo
unfolding body line_steps
returns-in-PointerTo g c =
    line_at tree_of_type_node c.in-PointerTo.is (record {
      meets =
          meets_at
          (λ x. in_midst (world_of (g.B.Below.at c.args.below).refers) (tree_of_type_node x)
          (tree_of_type_handle c.in-PointerTo.ty) (scope_of c.args.scope))
          c.in-PointerTo.is c.around-in-PointerTo.ensures;
    })

pub returns-in-LvalueRef : goal.returns-in-LvalueRef
unfolding body line_steps
returns-in-LvalueRef g c =
    line_at tree_of_type_node c.in-LvalueRef.is (record {
      meets =
          meets_at
          (λ x. in_midst (world_of (g.B.Below.at c.args.below).refers) (tree_of_type_node x)
          (tree_of_type_handle c.in-LvalueRef.ty) (scope_of c.args.scope))
          c.in-LvalueRef.is c.around-in-LvalueRef.ensures;
    })

pub returns-in-RvalueRef : goal.returns-in-RvalueRef
unfolding body line_steps
returns-in-RvalueRef g c =
    line_at tree_of_type_node c.in-RvalueRef.is (record {
      meets =
          meets_at
          (λ x. in_midst (world_of (g.B.Below.at c.args.below).refers) (tree_of_type_node x)
          (tree_of_type_handle c.in-RvalueRef.ty) (scope_of c.args.scope))
          c.in-RvalueRef.is c.around-in-RvalueRef.ensures;
    })

pub returns-in-Complex : goal.returns-in-Complex
unfolding body line_steps
returns-in-Complex g c =
    line_at tree_of_type_node c.in-Complex.is (record { meets = c.with_word.ensures })

pub returns-in-Imaginary : goal.returns-in-Imaginary
unfolding body line_steps
returns-in-Imaginary g c =
    line_at tree_of_type_node c.in-Imaginary.is (record { meets = c.with_word-in-Imaginary.ensures })

pub returns-in-PackExpansion : goal.returns-in-PackExpansion
unfolding body line_steps
returns-in-PackExpansion g c =
    line_at tree_of_type_node c.in-PackExpansion.is (record { meets = c.pack_expansion.ensures })
