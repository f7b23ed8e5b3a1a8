use Rattle.std.proofs.Common.{◌≡◌, ◌/◌, ◌+◌, ◌<◌, ◌≤◌, ap, arith, refl}
use Rattle.demangle_printing.specs.Lines.{line_steps}
use Rattle.demangle_meets.proofs.Acts.{meets_block, meets_done}
use Rattle.demangle_lines.proofs.Doing.{runs_as}
use Rattle.demangle_lines_nodes.specs.Tags.{tag_at}
use Rattle.demangle_lines_nodes.proofs.Steps.{no_tag}
use Rattle.demangle_lines_nodes.proofs.blocks_9.block_9.Goals as goal

pub returns-in-144 : goal.returns-in-144
unfolding tag_at line_steps
returns-in-144 g c = runs_as (ap (λ z. line_steps (tag_at z)) c.in-144.is) c.local_name_default.ensures

pub returns-in-145 : goal.returns-in-145
unfolding tag_at
returns-in-145 g c = runs_as (ap (λ z. line_steps (tag_at z)) c.in-145.is) c.local_name_relative.ensures

pub returns-in-146 : goal.returns-in-146
unfolding tag_at
returns-in-146 g c = runs_as (ap (λ z. line_steps (tag_at z)) c.in-146.is) c.local_name_default-in-146.ensures

pub returns-in-147 : goal.returns-in-147
unfolding tag_at
returns-in-147 g c = runs_as (ap (λ z. line_steps (tag_at z)) c.in-147.is) c.special_name_virtual_table.ensures

pub returns-in-148 : goal.returns-in-148
unfolding tag_at
returns-in-148 g c = runs_as (ap (λ z. line_steps (tag_at z)) c.in-148.is) c.special_name_vtt.ensures

pub returns-in-149 : goal.returns-in-149
unfolding tag_at
returns-in-149 g c = runs_as (ap (λ z. line_steps (tag_at z)) c.in-149.is) c.special_name_typeinfo.ensures

pub returns-in-150 : goal.returns-in-150
unfolding tag_at
returns-in-150 g c = runs_as (ap (λ z. line_steps (tag_at z)) c.in-150.is) c.special_name_typeinfo_name.ensures

pub returns-in-151 : goal.returns-in-151
unfolding tag_at
returns-in-151 g c = runs_as (ap (λ z. line_steps (tag_at z)) c.in-151.is) c.special_name_virtual_override_thunk.ensures

pub returns-in-152 : goal.returns-in-152
unfolding tag_at
returns-in-152 g c = runs_as (ap (λ z. line_steps (tag_at z)) c.in-152.is) c.special_name_virtual_override_thunk_covariant.ensures

pub returns-in-153 : goal.returns-in-153
unfolding tag_at
returns-in-153 g c = runs_as (ap (λ z. line_steps (tag_at z)) c.in-153.is) c.special_name_guard.ensures

pub returns-in-154 : goal.returns-in-154
unfolding tag_at
returns-in-154 g c = runs_as (ap (λ z. line_steps (tag_at z)) c.in-154.is) c.special_name_guard_temporary.ensures

pub returns-in-155 : goal.returns-in-155
unfolding tag_at
returns-in-155 g c = runs_as (ap (λ z. line_steps (tag_at z)) c.in-155.is) c.special_name_construction_vtable.ensures

pub returns-in-156 : goal.returns-in-156
unfolding tag_at
returns-in-156 g c = runs_as (ap (λ z. line_steps (tag_at z)) c.in-156.is) c.special_name_typeinfo_function.ensures

pub returns-in-157 : goal.returns-in-157
unfolding tag_at
returns-in-157 g c = runs_as (ap (λ z. line_steps (tag_at z)) c.in-157.is) c.special_name_tls_init.ensures

pub returns-in-158 : goal.returns-in-158
unfolding tag_at
returns-in-158 g c = runs_as (ap (λ z. line_steps (tag_at z)) c.in-158.is) c.special_name_tls_wrapper.ensures

pub returns-in-159 : goal.returns-in-159
unfolding tag_at
returns-in-159 g c = runs_as (ap (λ z. line_steps (tag_at z)) c.in-159.is) c.special_name_java_resource.ensures

pub returns-in_default : goal.returns-in_default
returns-in_default g c = absurd (omega (arith, c.requires.block, c.in_default))
