use Rattle.std.proofs.Common.{◌≡◌, ◌/◌, ◌+◌, ◌<◌, ◌≤◌, ap, arith, refl}
use Rattle.demangle_printing.specs.Lines.{line_steps}
use Rattle.demangle_meets.proofs.Acts.{meets_block, meets_done}
use Rattle.demangle_lines.proofs.Doing.{runs_as}
use Rattle.demangle_lines_nodes.specs.Tags.{tag_at}
use Rattle.demangle_lines_nodes.proofs.Steps.{no_tag}
use Rattle.demangle_lines_nodes.proofs.blocks_4.block_4.Goals as goal

pub returns-in-64 : goal.returns-in-64
unfolding tag_at
returns-in-64 g c = runs_as (ap (λ z. line_steps (tag_at z)) c.in-64.is) c.nested_name_template.ensures

pub returns-in-65 : goal.returns-in-65
unfolding tag_at
returns-in-65 g c = runs_as (ap (λ z. line_steps (tag_at z)) c.in-65.is) c.nested_name_unqualified_explicit_object.ensures

pub returns-in-66 : goal.returns-in-66
unfolding tag_at
returns-in-66 g c = runs_as (ap (λ z. line_steps (tag_at z)) c.in-66.is) c.nested_name_template_explicit_object.ensures

pub returns-in-67 : goal.returns-in-67
unfolding tag_at
returns-in-67 g c = runs_as (ap (λ z. line_steps (tag_at z)) c.in-67.is) c.mangled_name_encoding.ensures

pub returns-in-68 : goal.returns-in-68
unfolding tag_at
returns-in-68 g c = runs_as (ap (λ z. line_steps (tag_at z)) c.in-68.is) c.mangled_name_block_invoke.ensures

pub returns-in-69 : goal.returns-in-69
unfolding tag_at line_steps
returns-in-69 g c = runs_as (ap (λ z. line_steps (tag_at z)) c.in-69.is) (record { meets = meets_block c.part.ensures meets_done })

pub returns-in-70 : goal.returns-in-70
unfolding tag_at line_steps
returns-in-70 g c = runs_as (ap (λ z. line_steps (tag_at z)) c.in-70.is) (record { meets = meets_block c.part-in-70.ensures meets_done })

pub returns-in-71 : goal.returns-in-71
unfolding tag_at
returns-in-71 g c = runs_as (ap (λ z. line_steps (tag_at z)) c.in-71.is) c.encoding_function.ensures

pub returns-in-72 : goal.returns-in-72
unfolding tag_at
returns-in-72 g c = runs_as (ap (λ z. line_steps (tag_at z)) c.in-72.is) c.encoding_data.ensures

pub returns-in-73 : goal.returns-in-73
unfolding tag_at line_steps
returns-in-73 g c = runs_as (ap (λ z. line_steps (tag_at z)) c.in-73.is) c.encoding_data-in-73.ensures

pub returns-in-74 : goal.returns-in-74
unfolding tag_at
returns-in-74 g c = runs_as (ap (λ z. line_steps (tag_at z)) c.in-74.is) c.global_ctor_dtor_ctor.ensures

pub returns-in-75 : goal.returns-in-75
unfolding tag_at
returns-in-75 g c = runs_as (ap (λ z. line_steps (tag_at z)) c.in-75.is) c.global_ctor_dtor_dtor.ensures

pub returns-in-76 : goal.returns-in-76
unfolding tag_at line_steps
returns-in-76 g c = runs_as (ap (λ z. line_steps (tag_at z)) c.in-76.is) (record { meets = meets_block c.part-in-76.ensures meets_done })

pub returns-in-77 : goal.returns-in-77
unfolding tag_at line_steps
returns-in-77 g c = runs_as (ap (λ z. line_steps (tag_at z)) c.in-77.is) (record { meets = meets_block c.part-in-77.ensures meets_done })

pub returns-in-78 : goal.returns-in-78
unfolding tag_at
returns-in-78 g c = runs_as (ap (λ z. line_steps (tag_at z)) c.in-78.is) c.name_unscoped_template.ensures

pub returns-in-79 : goal.returns-in-79
unfolding tag_at line_steps
returns-in-79 g c = runs_as (ap (λ z. line_steps (tag_at z)) c.in-79.is) (record { meets = meets_block c.part-in-79.ensures meets_done })

pub returns-in_default : goal.returns-in_default
returns-in_default g c = absurd (omega (arith, c.requires.block, c.in_default))
