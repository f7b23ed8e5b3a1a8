use Rattle.std.proofs.Common.{◌≡◌, ◌/◌, ◌+◌, ◌<◌, ◌≤◌, ap, arith, refl}
use Rattle.demangle_printing.specs.Lines.{line_steps}
use Rattle.demangle_meets.proofs.Acts.{meets_block, meets_done}
use Rattle.demangle_lines.proofs.Doing.{runs_as}
use Rattle.demangle_lines_nodes.specs.Tags.{tag_at}
use Rattle.demangle_lines_nodes.proofs.Steps.{no_tag}
use Rattle.demangle_lines_nodes.proofs.blocks_5.block_5.Goals as goal

pub returns-in-80 : goal.returns-in-80
unfolding tag_at
returns-in-80 g c = runs_as (ap (λ z. line_steps (tag_at z)) c.in-80.is) c.template_args.ensures

pub returns-in-81 : goal.returns-in-81
unfolding tag_at line_steps
returns-in-81 g c = runs_as (ap (λ z. line_steps (tag_at z)) c.in-81.is) (record { meets = meets_block c.part.ensures meets_done })

pub returns-in-82 : goal.returns-in-82
unfolding tag_at line_steps
returns-in-82 g c = runs_as (ap (λ z. line_steps (tag_at z)) c.in-82.is) (record { meets = meets_block c.part-in-82.ensures meets_done })

pub returns-in-83 : goal.returns-in-83
unfolding tag_at line_steps
returns-in-83 g c = runs_as (ap (λ z. line_steps (tag_at z)) c.in-83.is) (record { meets = meets_block c.part-in-83.ensures meets_done })

pub returns-in-84 : goal.returns-in-84
unfolding tag_at
returns-in-84 g c = runs_as (ap (λ z. line_steps (tag_at z)) c.in-84.is) c.template_arg_arg_pack.ensures

pub returns-in-85 : goal.returns-in-85
unfolding tag_at
returns-in-85 g c = runs_as (ap (λ z. line_steps (tag_at z)) c.in-85.is) c.member_name.ensures

pub returns-in-86 : goal.returns-in-86
unfolding tag_at
returns-in-86 g c = runs_as (ap (λ z. line_steps (tag_at z)) c.in-86.is) c.initializer.ensures

pub returns-in-87 : goal.returns-in-87
unfolding tag_at
returns-in-87 g c = runs_as (ap (λ z. line_steps (tag_at z)) c.in-87.is) c.expression_unary.ensures

pub returns-in-88 : goal.returns-in-88
unfolding tag_at
returns-in-88 g c = runs_as (ap (λ z. line_steps (tag_at z)) c.in-88.is) c.expression_binary.ensures

pub returns-in-89 : goal.returns-in-89
unfolding tag_at
returns-in-89 g c = runs_as (ap (λ z. line_steps (tag_at z)) c.in-89.is) c.expression_ternary.ensures

pub returns-in-90 : goal.returns-in-90
unfolding tag_at
returns-in-90 g c = runs_as (ap (λ z. line_steps (tag_at z)) c.in-90.is) c.expression_prefix_inc.ensures

pub returns-in-91 : goal.returns-in-91
unfolding tag_at
returns-in-91 g c = runs_as (ap (λ z. line_steps (tag_at z)) c.in-91.is) c.expression_prefix_dec.ensures

pub returns-in-92 : goal.returns-in-92
unfolding tag_at
returns-in-92 g c = runs_as (ap (λ z. line_steps (tag_at z)) c.in-92.is) c.expression_call.ensures

pub returns-in-93 : goal.returns-in-93
unfolding tag_at
returns-in-93 g c = runs_as (ap (λ z. line_steps (tag_at z)) c.in-93.is) c.expression_conversion_one.ensures

pub returns-in-94 : goal.returns-in-94
unfolding tag_at
returns-in-94 g c = runs_as (ap (λ z. line_steps (tag_at z)) c.in-94.is) c.expression_conversion_many.ensures

pub returns-in-95 : goal.returns-in-95
unfolding tag_at
returns-in-95 g c = runs_as (ap (λ z. line_steps (tag_at z)) c.in-95.is) c.expression_conversion_braced.ensures

pub returns-in_default : goal.returns-in_default
returns-in_default g c = absurd (omega (arith, c.requires.block, c.in_default))
