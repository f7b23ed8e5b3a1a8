use Rattle.std.proofs.Common.{◌≡◌, ◌/◌, ◌+◌, ◌<◌, ◌≤◌, ap, arith, refl}
use Rattle.demangle_printing.specs.Lines.{line_steps}
use Rattle.demangle_meets.proofs.Acts.{meets_block, meets_done}
use Rattle.demangle_lines.proofs.Doing.{runs_as}
use Rattle.demangle_lines_nodes.specs.Tags.{tag_at}
use Rattle.demangle_lines_nodes.proofs.Steps.{no_tag}
use Rattle.demangle_lines_nodes.proofs.blocks_11.block_11.Goals as goal

pub returns-in-176 : goal.returns-in-176
unfolding tag_at line_steps
returns-in-176 g c = runs_as (ap (λ z. line_steps (tag_at z)) c.in-176.is) c.type_node_qualified.ensures

pub returns-in-177 : goal.returns-in-177
unfolding tag_at line_steps
returns-in-177 g c = runs_as (ap (λ z. line_steps (tag_at z)) c.in-177.is) c.type_node_pointer_to.ensures

pub returns-in-178 : goal.returns-in-178
unfolding tag_at line_steps
returns-in-178 g c = runs_as (ap (λ z. line_steps (tag_at z)) c.in-178.is) c.type_node_qualified-in-178.ensures

pub returns-in-179 : goal.returns-in-179
unfolding tag_at line_steps
returns-in-179 g c = runs_as (ap (λ z. line_steps (tag_at z)) c.in-179.is) c.type_node_qualified-in-179.ensures

pub returns-in-180 : goal.returns-in-180
unfolding tag_at line_steps
returns-in-180 g c = runs_as (ap (λ z. line_steps (tag_at z)) c.in-180.is) (record { meets = meets_block c.part.ensures meets_done })

pub returns-in-181 : goal.returns-in-181
unfolding tag_at
returns-in-181 g c = runs_as (ap (λ z. line_steps (tag_at z)) c.in-181.is) c.class_enum_type_elaborated_struct.ensures

pub returns-in-182 : goal.returns-in-182
unfolding tag_at
returns-in-182 g c = runs_as (ap (λ z. line_steps (tag_at z)) c.in-182.is) c.class_enum_type_elaborated_union.ensures

pub returns-in-183 : goal.returns-in-183
unfolding tag_at
returns-in-183 g c = runs_as (ap (λ z. line_steps (tag_at z)) c.in-183.is) c.class_enum_type_elaborated_enum.ensures

pub returns-in-184 : goal.returns-in-184
unfolding tag_at
returns-in-184 g c = runs_as (ap (λ z. line_steps (tag_at z)) c.in-184.is) c.exception_spec_no_except.ensures

pub returns-in-185 : goal.returns-in-185
unfolding tag_at
returns-in-185 g c = runs_as (ap (λ z. line_steps (tag_at z)) c.in-185.is) c.exception_spec_computed.ensures

pub returns-in-186 : goal.returns-in-186
unfolding tag_at
returns-in-186 g c = runs_as (ap (λ z. line_steps (tag_at z)) c.in-186.is) c.function_type.ensures

pub returns-in-187 : goal.returns-in-187
unfolding tag_at line_steps
returns-in-187 g c = runs_as (ap (λ z. line_steps (tag_at z)) c.in-187.is) (record { meets = meets_block c.part-in-187.ensures meets_done })

pub returns-in-188 : goal.returns-in-188
unfolding tag_at line_steps
returns-in-188 g c = runs_as (ap (λ z. line_steps (tag_at z)) c.in-188.is) (record { meets = meets_block c.part-in-188.ensures meets_done })

pub returns-in-189 : goal.returns-in-189
unfolding tag_at line_steps
returns-in-189 g c = runs_as (ap (λ z. line_steps (tag_at z)) c.in-189.is) (record { meets = meets_block c.part-in-189.ensures meets_done })

pub returns-in-190 : goal.returns-in-190
unfolding tag_at line_steps
returns-in-190 g c = runs_as (ap (λ z. line_steps (tag_at z)) c.in-190.is) (record { meets = meets_block c.part-in-190.ensures meets_done })

pub returns-in-191 : goal.returns-in-191
unfolding tag_at line_steps
returns-in-191 g c = runs_as (ap (λ z. line_steps (tag_at z)) c.in-191.is) (record { meets = meets_block c.part-in-191.ensures meets_done })

pub returns-in_default : goal.returns-in_default
returns-in_default g c = absurd (omega (arith, c.requires.block, c.in_default))
