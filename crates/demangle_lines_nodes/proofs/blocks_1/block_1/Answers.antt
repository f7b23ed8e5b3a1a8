use Rattle.std.proofs.Common.{◌≡◌, ◌/◌, ◌+◌, ◌<◌, ◌≤◌, ap, arith, refl}
use Rattle.demangle_printing.specs.Lines.{line_steps}
use Rattle.demangle_meets.proofs.Acts.{meets_block, meets_done}
use Rattle.demangle_lines.proofs.Doing.{runs_as}
use Rattle.demangle_lines_nodes.specs.Tags.{tag_at}
use Rattle.demangle_lines_nodes.proofs.Steps.{no_tag}
use Rattle.demangle_lines_nodes.proofs.blocks_1.block_1.Goals as goal

pub returns-in-16 : goal.returns-in-16
unfolding tag_at
returns-in-16 g c = runs_as (ap (λ z. line_steps (tag_at z)) c.in-16.is) c.clone_suffix.ensures

pub returns-in-17 : goal.returns-in-17
unfolding tag_at
returns-in-17 g c = runs_as (ap (λ z. line_steps (tag_at z)) c.in-17.is) c.cv_qualifiers.ensures

pub returns-in-18 : goal.returns-in-18
unfolding tag_at line_steps
returns-in-18 g c = runs_as (ap (λ z. line_steps (tag_at z)) c.in-18.is) (record { meets = meets_done })

pub returns-in-19 : goal.returns-in-19
unfolding tag_at line_steps
returns-in-19 g c = runs_as (ap (λ z. line_steps (tag_at z)) c.in-19.is) (record { meets = meets_done })

pub returns-in-20 : goal.returns-in-20
unfolding tag_at
returns-in-20 g c = runs_as (ap (λ z. line_steps (tag_at z)) c.in-20.is) c.call_offset_non_virtual.ensures

pub returns-in-21 : goal.returns-in-21
unfolding tag_at
returns-in-21 g c = runs_as (ap (λ z. line_steps (tag_at z)) c.in-21.is) c.call_offset_virtual.ensures

pub returns-in-22 : goal.returns-in-22
unfolding tag_at
returns-in-22 g c = runs_as (ap (λ z. line_steps (tag_at z)) c.in-22.is) c.function_param.ensures

pub returns-in-23 : goal.returns-in-23
unfolding tag_at line_steps
returns-in-23 g c = runs_as (ap (λ z. line_steps (tag_at z)) c.in-23.is) (record { meets = meets_block c.part.ensures meets_done })

pub returns-in-24 : goal.returns-in-24
unfolding tag_at
returns-in-24 g c = runs_as (ap (λ z. line_steps (tag_at z)) c.in-24.is) c.unnamed_type_name.ensures

pub returns-in-25 : goal.returns-in-25
unfolding tag_at line_steps
returns-in-25 g c = runs_as (ap (λ z. line_steps (tag_at z)) c.in-25.is) (record { meets = meets_done })

pub returns-in-26 : goal.returns-in-26
unfolding tag_at line_steps
returns-in-26 g c = runs_as (ap (λ z. line_steps (tag_at z)) c.in-26.is) (record { meets = meets_done })

pub returns-in-27 : goal.returns-in-27
unfolding tag_at line_steps
returns-in-27 g c = runs_as (ap (λ z. line_steps (tag_at z)) c.in-27.is) (record { meets = meets_block c.part-in-27.ensures meets_done })

pub returns-in-28 : goal.returns-in-28
unfolding tag_at line_steps
returns-in-28 g c = runs_as (ap (λ z. line_steps (tag_at z)) c.in-28.is) (record { meets = meets_block c.part-in-28.ensures meets_done })

pub returns-in-29 : goal.returns-in-29
unfolding tag_at line_steps
returns-in-29 g c = runs_as (ap (λ z. line_steps (tag_at z)) c.in-29.is) (record { meets = meets_block c.part-in-29.ensures meets_done })

pub returns-in-30 : goal.returns-in-30
unfolding tag_at
returns-in-30 g c = runs_as (ap (λ z. line_steps (tag_at z)) c.in-30.is) c.qualified_builtin.ensures

pub returns-in-31 : goal.returns-in-31
unfolding tag_at
returns-in-31 g c = runs_as (ap (λ z. line_steps (tag_at z)) c.in-31.is) c.parametric_builtin_type_float_n.ensures

pub returns-in_default : goal.returns-in_default
returns-in_default g c = absurd (omega (arith, c.requires.block, c.in_default))
