use Rattle.std.proofs.Common.{Some}
use Rattle.demangle_core.specs.Core.{Tag, end, node, trees}
use Rattle.demangle_leaf_nodes.specs.TreeLeaves.{parts_of_clone_suffix, tag_of_clone_suffix}
use Rattle.demangle_nodes.proofs.Parts.{mangled_name_block_invoke, mangled_name_encoding}
use Rattle.demangle_nodes.proofs.Parts.{mangled_name_global_ctor_dtor, mangled_name_top_level_type}
use Rattle.demangle_nodes.specs.TreeNodes.{parts_of_mangled_name, tag_of_mangled_name}
use Rattle.demangle_printing.specs.Lines.{line_steps}
use Rattle.demangle_printing.specs.Lines.Names.{clone_suffixes}
use Rattle.demangle_printing.specs.Print.{body}
use Rattle.demangle_printing.specs.Reader.{run}
use Rattle.demangle_meets.proofs.Acts.{meets_block, meets_done, meets_text}
use Rattle.demangle_meets.proofs.Parts.{line_parts, meets_at, meets_part}
use Rattle.demangle_meets.specs.Place.{world_of}
use Rattle.demangle_scope.specs.ScopeOf.{scope_of}
use Rattle.demangle_print_parts.specs.Pieces.{row}
use Rattle.demangle_print_names.proofs.whole.mangled_name_steps.Goals as goal

pub returns-in-Encoding : goal.returns-in-Encoding
unfolding body line_steps
returns-in-Encoding g c =
    line_parts tag_of_mangled_name parts_of_mangled_name c.in-Encoding.is
    (mangled_name_encoding _ _) (record {
      meets =
          meets_part c.encoding.ensures (meets_block
          (meets_at
          (λ xs. run (world_of (g.B.Below.at c.args.below).refers) (Some (row (node Tag.Several end
          (node Tag.Several (trees tag_of_clone_suffix parts_of_clone_suffix xs) end)))) (scope_of c.args.scope)
          clone_suffixes)
          c.as_slice.ensures.value (c.shown_suffixes.ensures (scope_of c.args.scope) Tag.Several end)) meets_done);
    })

pub returns-in-BlockInvoke : goal.returns-in-BlockInvoke
unfolding body line_steps
returns-in-BlockInvoke g c =
    line_parts tag_of_mangled_name parts_of_mangled_name c.in-BlockInvoke.is
    (mangled_name_block_invoke _ _) (record {
      meets =
          meets_text c.text.ensures (meets_part c.encoding-in-BlockInvoke.ensures meets_done);
    })

pub returns-in-TopLevelType : goal.returns-in-TopLevelType
unfolding body line_steps
returns-in-TopLevelType g c =
    line_parts tag_of_mangled_name parts_of_mangled_name c.in-TopLevelType.is
    (mangled_name_top_level_type _) (record { meets = meets_part c.type_handle.ensures meets_done })

pub returns-in-GlobalCtorDtor : goal.returns-in-GlobalCtorDtor
unfolding body line_steps
returns-in-GlobalCtorDtor g c =
    line_parts tag_of_mangled_name parts_of_mangled_name c.in-GlobalCtorDtor.is
    (mangled_name_global_ctor_dtor _) (record { meets = meets_part c.global_ctor_dtor.ensures meets_done })
