use Rattle.std.proofs.Common.{◌≡◌, ◌/◌, ◌+◌, ◌<◌, ◌≤◌, ap, arith, refl}
use Rattle.demangle_printing.specs.Lines.{line_steps}
use Rattle.demangle_meets.proofs.Acts.{meets_block, meets_done}
use Rattle.demangle_lines.proofs.Doing.{runs_as}
use Rattle.demangle_lines_nodes.specs.Tags.{tag_at}
use Rattle.demangle_lines_nodes.proofs.Steps.{no_tag}
use Rattle.demangle_lines_nodes.proofs.blocks_0.block_0.Goals as goal

pub returns-in-0 : goal.returns-in-0
unfolding tag_at line_steps
returns-in-0 g c = runs_as (ap (λ z. line_steps (tag_at z)) c.in-0.is) (record { meets = meets_done })

pub returns-in-1 : goal.returns-in-1
unfolding tag_at line_steps
returns-in-1 g c = runs_as (ap (λ z. line_steps (tag_at z)) c.in-1.is) (record { meets = meets_done })

pub returns-in-2 : goal.returns-in-2
unfolding tag_at line_steps
returns-in-2 g c = runs_as (ap (λ z. line_steps (tag_at z)) c.in-2.is) (record { meets = meets_done })

pub returns-in-3 : goal.returns-in-3
unfolding tag_at line_steps
returns-in-3 g c = runs_as (ap (λ z. line_steps (tag_at z)) c.in-3.is) (record { meets = meets_done })

pub returns-in-4 : goal.returns-in-4
unfolding tag_at line_steps
returns-in-4 g c = runs_as (ap (λ z. line_steps (tag_at z)) c.in-4.is) (record { meets = meets_done })

pub returns-in-5 : goal.returns-in-5
unfolding tag_at line_steps
returns-in-5 g c = runs_as (ap (λ z. line_steps (tag_at z)) c.in-5.is) (record { meets = meets_done })

pub returns-in-6 : goal.returns-in-6
unfolding tag_at line_steps
returns-in-6 g c = runs_as (ap (λ z. line_steps (tag_at z)) c.in-6.is) (record { meets = meets_done })

pub returns-in-7 : goal.returns-in-7
unfolding tag_at
returns-in-7 g c = runs_as (ap (λ z. line_steps (tag_at z)) c.in-7.is) c.template_param.ensures

pub returns-in-8 : goal.returns-in-8
unfolding tag_at line_steps
returns-in-8 g c = runs_as (ap (λ z. line_steps (tag_at z)) c.in-8.is) (record { meets = meets_done })

pub returns-in-9 : goal.returns-in-9
unfolding tag_at
returns-in-9 g c = runs_as (ap (λ z. line_steps (tag_at z)) c.in-9.is) c.identifier.ensures

pub returns-in-10 : goal.returns-in-10
unfolding tag_at
returns-in-10 g c = runs_as (ap (λ z. line_steps (tag_at z)) c.in-10.is) c.clone_type_identifier.ensures

pub returns-in-11 : goal.returns-in-11
unfolding tag_at
returns-in-11 g c = runs_as (ap (λ z. line_steps (tag_at z)) c.in-11.is) c.resource_name.ensures

pub returns-in-12 : goal.returns-in-12
unfolding tag_at line_steps
returns-in-12 g c = runs_as (ap (λ z. line_steps (tag_at z)) c.in-12.is) (record { meets = meets_block c.part.ensures meets_done })

pub returns-in-13 : goal.returns-in-13
unfolding tag_at
returns-in-13 g c = runs_as (ap (λ z. line_steps (tag_at z)) c.in-13.is) c.abi_tag.ensures

pub returns-in-14 : goal.returns-in-14
unfolding tag_at
returns-in-14 g c = runs_as (ap (λ z. line_steps (tag_at z)) c.in-14.is) c.abi_tags.ensures

pub returns-in-15 : goal.returns-in-15
unfolding tag_at
returns-in-15 g c = runs_as (ap (λ z. line_steps (tag_at z)) c.in-15.is) c.data_member_prefix.ensures

pub returns-in_default : goal.returns-in_default
returns-in_default g c = absurd (omega (arith, c.requires.block, c.in_default))
