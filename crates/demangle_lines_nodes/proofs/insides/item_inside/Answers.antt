use Rattle.std.proofs.Common.{◌≡◌, ◌∙◌, arith, refl, sym}
use Rattle.demangle_printing.specs.Lines.{inside_steps, line_steps}
use Rattle.demangle_meets.proofs.Acts.{meets_block, meets_done}
use Rattle.demangle_lines_nodes.specs.Tags.{tag_at}
use Rattle.demangle_lines_nodes.proofs.Behind.{function_behind, item_behind}
use Rattle.demangle_lines_nodes.proofs.Nothing.{nothing_behind}
use Rattle.demangle_lines_nodes.proofs.insides.item_inside.Goals as goal

pub returns-in-17 : goal.returns-in-17
unfolding tag_at line_steps inside_steps
returns-in-17 g c = item_behind 17 (sym c.in-17.is ∙ c.tag_of-number.ensures) refl c.cv_qualifiers.ensures

pub returns-in-50 : goal.returns-in-50
unfolding tag_at line_steps inside_steps
returns-in-50 g c = item_behind 50 (sym c.in-50.is ∙ c.tag_of-number.ensures) refl c.bare_function_type_inside.ensures

pub returns-in-53 : goal.returns-in-53
unfolding tag_at line_steps inside_steps
returns-in-53 g c = item_behind 53 (sym c.in-53.is ∙ c.tag_of-number.ensures) refl c.pointer_to_member_type_inside.ensures

pub returns-in-71 : goal.returns-in-71
returns-in-71 g c = function_behind (sym c.in-71.is ∙ c.tag_of-number.ensures) c.function_inside.ensures

pub returns-in-175 : goal.returns-in-175
unfolding tag_at line_steps inside_steps
returns-in-175 g c = item_behind 175 (sym c.in-175.is ∙ c.tag_of-number.ensures) refl c.array_type_dimension_number_inside.ensures

pub returns-in-176 : goal.returns-in-176
unfolding tag_at line_steps inside_steps
returns-in-176 g c = item_behind 176 (sym c.in-176.is ∙ c.tag_of-number.ensures) refl c.array_type_dimension_expression_inside.ensures

pub returns-in-177 : goal.returns-in-177
unfolding tag_at line_steps inside_steps
returns-in-177 g c = item_behind 177 (sym c.in-177.is ∙ c.tag_of-number.ensures) refl c.array_type_no_dimension_inside.ensures

pub returns-in-178 : goal.returns-in-178
unfolding tag_at line_steps inside_steps
returns-in-178 g c = item_behind 178 (sym c.in-178.is ∙ c.tag_of-number.ensures) refl c.vector_type_dimension_number_inside.ensures

pub returns-in-179 : goal.returns-in-179
unfolding tag_at line_steps inside_steps
returns-in-179 g c = item_behind 179 (sym c.in-179.is ∙ c.tag_of-number.ensures) refl c.vector_type_dimension_expression_inside.ensures

pub returns-in-186 : goal.returns-in-186
unfolding tag_at line_steps inside_steps
returns-in-186 g c = item_behind 186 (sym c.in-186.is ∙ c.tag_of-number.ensures) refl c.function_type_inside.ensures

pub returns-in-195 : goal.returns-in-195
unfolding tag_at line_steps inside_steps
returns-in-195 g c = item_behind 195 (sym c.in-195.is ∙ c.tag_of-number.ensures) refl (record {
  meets = meets_block c.part.ensures
      meets_done;
})

pub returns-in-197 : goal.returns-in-197
unfolding tag_at line_steps inside_steps
returns-in-197 g c = item_behind 197 (sym c.in-197.is ∙ c.tag_of-number.ensures) refl c.type_node_pointer_to_inside.ensures

pub returns-in-198 : goal.returns-in-198
unfolding tag_at line_steps inside_steps
returns-in-198 g c = item_behind 198 (sym c.in-198.is ∙ c.tag_of-number.ensures) refl c.type_node_lvalue_ref_inside.ensures

pub returns-in-199 : goal.returns-in-199
unfolding tag_at line_steps inside_steps
returns-in-199 g c = item_behind 199 (sym c.in-199.is ∙ c.tag_of-number.ensures) refl c.type_node_rvalue_ref_inside.ensures

pub returns-in_default : goal.returns-in_default
returns-in_default g c = nothing_behind (λ e. omega (arith, c.in_default, c.tag_of-number.ensures, e)) (λ e. omega (
  arith,
  c.in_default,
  c.tag_of-number.ensures,
  e,
)) (λ e. omega (arith, c.in_default, c.tag_of-number.ensures, e)) (λ e. omega (
  arith,
  c.in_default,
  c.tag_of-number.ensures,
  e,
)) (λ e. omega (arith, c.in_default, c.tag_of-number.ensures, e)) (λ e.
    omega (arith, c.in_default, c.tag_of-number.ensures, e)) (λ e. omega (
      arith,
      c.in_default,
      c.tag_of-number.ensures,
      e,
    )) (λ e. omega (arith, c.in_default, c.tag_of-number.ensures, e)) (λ e. omega (
      arith,
      c.in_default,
      c.tag_of-number.ensures,
      e,
    )) (λ e. omega (arith, c.in_default, c.tag_of-number.ensures, e)) (λ e.
    omega (arith, c.in_default, c.tag_of-number.ensures, e)) (λ e. omega (
      arith,
      c.in_default,
      c.tag_of-number.ensures,
      e,
    )) (λ e. omega (arith, c.in_default, c.tag_of-number.ensures, e)) (λ e. omega (
      arith,
      c.in_default,
      c.tag_of-number.ensures,
      e,
    ))
