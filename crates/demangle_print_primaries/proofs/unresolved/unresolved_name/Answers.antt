use Rattle.std.proofs.Common.{refl}
use Rattle.demangle_nodes.specs.TreeNodes.{parts_of_unresolved_name, tag_of_unresolved_name}
use Rattle.demangle_nodes.proofs.Parts.{unresolved_name_global, unresolved_name_global_nested2, unresolved_name_name}
use Rattle.demangle_nodes.proofs.Parts.{unresolved_name_nested1, unresolved_name_nested2}
use Rattle.demangle_printing.specs.Print.{body}
use Rattle.demangle_printing.specs.Lines.{line_steps}
use Rattle.demangle_meets.proofs.Acts.{meets_done, meets_text}
use Rattle.demangle_meets.proofs.Parts.{meets_part, prints_deep, prints_node, prints_parts}
use Rattle.demangle_print_primaries.proofs.Itself.{unresolved_name_is_itself}
use Rattle.demangle_scope.specs.ScopeOf.{scope_of}
use Rattle.demangle_print_primaries.proofs.Lists.{meets_levels}
use Rattle.demangle_print_primaries.proofs.unresolved.unresolved_name.Goals as goal

pub returns-in_default : goal.returns-in_default
returns-in_default g c = prints_deep (unresolved_name_is_itself _ c.args.node.now) c.in_default.ensures

pub returns-in-Name : goal.returns-in-Name
unfolding body line_steps
returns-in-Name g c =
    prints_parts tag_of_unresolved_name parts_of_unresolved_name c.in-Name.is (unresolved_name_name _) (prints_node
    refl c.in-Some.ensures.0 (meets_part c.base_unresolved_name.ensures meets_done))

pub returns-in-Global : goal.returns-in-Global
unfolding body line_steps
returns-in-Global g c =
    prints_parts tag_of_unresolved_name parts_of_unresolved_name c.in-Global.is (unresolved_name_global _)
    (prints_node refl c.in-Some.ensures.0 (meets_text c.text.ensures (meets_part
    c.base_unresolved_name-in-Global.ensures meets_done)))

pub returns-in-Nested1 : goal.returns-in-Nested1
unfolding body line_steps
returns-in-Nested1 g c =
    prints_parts tag_of_unresolved_name parts_of_unresolved_name c.in-Nested1.is (unresolved_name_nested1 _ _ _)
    (prints_node refl c.in-Some.ensures.0 (meets_part c.unresolved_type_handle.ensures (meets_text
    c.text-in-Nested1.ensures (meets_levels (scope_of c.args.scope) _ (rw c.as_slice.ensures.value at c.levels.ensures)
    (meets_part c.base_unresolved_name-in-Nested1.ensures meets_done)))))

pub returns-in-Nested2 : goal.returns-in-Nested2
unfolding body line_steps
returns-in-Nested2 g c =
    prints_parts tag_of_unresolved_name parts_of_unresolved_name c.in-Nested2.is (unresolved_name_nested2 _ _)
    (prints_node refl c.in-Some.ensures.0 (meets_levels (scope_of c.args.scope) _ (rw
    c.as_slice-in-Nested2.ensures.value at c.levels-in-Nested2.ensures) (meets_part
    c.base_unresolved_name-in-Nested2.ensures meets_done)))

pub returns-in-GlobalNested2 : goal.returns-in-GlobalNested2
unfolding body line_steps
returns-in-GlobalNested2 g c =
    prints_parts tag_of_unresolved_name parts_of_unresolved_name c.in-GlobalNested2.is (unresolved_name_global_nested2
    _ _) (prints_node refl c.in-Some.ensures.0 (meets_text c.text-in-GlobalNested2.ensures (meets_levels (scope_of
    c.args.scope) _ (rw c.as_slice-in-GlobalNested2.ensures.value at c.levels-in-GlobalNested2.ensures) (meets_part
    c.base_unresolved_name-in-GlobalNested2.ensures meets_done))))
