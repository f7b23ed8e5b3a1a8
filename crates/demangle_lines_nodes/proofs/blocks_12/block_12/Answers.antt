use Rattle.std.proofs.Common.{◌≡◌, ◌/◌, ◌+◌, ◌<◌, ◌≤◌, ap, arith, refl}
use Rattle.demangle_printing.specs.Lines.{line_steps}
use Rattle.demangle_meets.proofs.Acts.{meets_block, meets_done}
use Rattle.demangle_lines.proofs.Doing.{runs_as}
use Rattle.demangle_lines_nodes.specs.Tags.{tag_at}
use Rattle.demangle_lines_nodes.proofs.Steps.{no_tag}
use Rattle.demangle_lines_nodes.proofs.blocks_12.block_12.Goals as goal

pub returns-in-192 : goal.returns-in-192
unfolding tag_at line_steps
returns-in-192 g c = runs_as (ap (λ z. line_steps (tag_at z)) c.in-192.is) (record { meets = meets_block c.part.ensures meets_done })

pub returns-in-193 : goal.returns-in-193
unfolding tag_at
returns-in-193 g c = runs_as (ap (λ z. line_steps (tag_at z)) c.in-193.is) c.type_node_template_template.ensures

pub returns-in-194 : goal.returns-in-194
unfolding tag_at line_steps
returns-in-194 g c = runs_as (ap (λ z. line_steps (tag_at z)) c.in-194.is) (record { meets = meets_block c.part-in-194.ensures meets_done })

pub returns-in-195 : goal.returns-in-195
unfolding tag_at
returns-in-195 g c = runs_as (ap (λ z. line_steps (tag_at z)) c.in-195.is) c.type_node_qualified.ensures

pub returns-in-196 : goal.returns-in-196
unfolding tag_at
returns-in-196 g c = runs_as (ap (λ z. line_steps (tag_at z)) c.in-196.is) c.type_node_vendor_extension.ensures

pub returns-in-197 : goal.returns-in-197
unfolding tag_at
returns-in-197 g c = runs_as (ap (λ z. line_steps (tag_at z)) c.in-197.is) c.type_node_pointer_to.ensures

pub returns-in-198 : goal.returns-in-198
unfolding tag_at line_steps
returns-in-198 g c = runs_as (ap (λ z. line_steps (tag_at z)) c.in-198.is) c.type_node_pointer_to-in-198.ensures

pub returns-in-199 : goal.returns-in-199
unfolding tag_at line_steps
returns-in-199 g c = runs_as (ap (λ z. line_steps (tag_at z)) c.in-199.is) c.type_node_pointer_to-in-199.ensures

pub returns-in-200 : goal.returns-in-200
unfolding tag_at
returns-in-200 g c = runs_as (ap (λ z. line_steps (tag_at z)) c.in-200.is) c.type_node_complex.ensures

pub returns-in-201 : goal.returns-in-201
unfolding tag_at
returns-in-201 g c = runs_as (ap (λ z. line_steps (tag_at z)) c.in-201.is) c.type_node_imaginary.ensures

pub returns-in-202 : goal.returns-in-202
unfolding tag_at
returns-in-202 g c = runs_as (ap (λ z. line_steps (tag_at z)) c.in-202.is) c.type_node_pack_expansion.ensures

pub returns-in-203 : goal.returns-in-203
unfolding tag_at
returns-in-203 g c = runs_as (ap (λ z. line_steps (tag_at z)) c.in-203.is) c.unresolved_type_template.ensures

pub returns-in-204 : goal.returns-in-204
unfolding tag_at line_steps
returns-in-204 g c = runs_as (ap (λ z. line_steps (tag_at z)) c.in-204.is) (record { meets = meets_block c.part-in-204.ensures meets_done })

pub returns-in-205 : goal.returns-in-205
unfolding tag_at line_steps
returns-in-205 g c = runs_as (ap (λ z. line_steps (tag_at z)) c.in-205.is) (record { meets = meets_done })

pub returns-in-206 : goal.returns-in-206
unfolding tag_at line_steps
returns-in-206 g c = runs_as (ap (λ z. line_steps (tag_at z)) c.in-206.is) (record { meets = meets_done })

pub returns-in-207 : goal.returns-in-207
unfolding tag_at line_steps
returns-in-207 g c = runs_as (ap (λ z. line_steps (tag_at z)) c.in-207.is) (record { meets = meets_done })

pub returns-in_default : goal.returns-in_default
returns-in_default g c = absurd (omega (arith, c.requires.block, c.in_default))
