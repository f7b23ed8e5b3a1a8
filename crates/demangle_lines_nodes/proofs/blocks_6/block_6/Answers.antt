use Rattle.std.proofs.Common.{◌≡◌, ◌/◌, ◌+◌, ◌<◌, ◌≤◌, ap, arith, refl}
use Rattle.demangle_printing.specs.Lines.{line_steps}
use Rattle.demangle_meets.proofs.Acts.{meets_block, meets_done}
use Rattle.demangle_lines.proofs.Doing.{runs_as}
use Rattle.demangle_lines_nodes.specs.Tags.{tag_at}
use Rattle.demangle_lines_nodes.proofs.Steps.{no_tag}
use Rattle.demangle_lines_nodes.proofs.blocks_6.block_6.Goals as goal

pub returns-in-96 : goal.returns-in-96
unfolding tag_at
returns-in-96 g c = runs_as (ap (λ z. line_steps (tag_at z)) c.in-96.is) c.expression_braced_init_list.ensures

pub returns-in-97 : goal.returns-in-97
unfolding tag_at
returns-in-97 g c = runs_as (ap (λ z. line_steps (tag_at z)) c.in-97.is) c.expression_new.ensures

pub returns-in-98 : goal.returns-in-98
unfolding tag_at
returns-in-98 g c = runs_as (ap (λ z. line_steps (tag_at z)) c.in-98.is) c.expression_global_new.ensures

pub returns-in-99 : goal.returns-in-99
unfolding tag_at
returns-in-99 g c = runs_as (ap (λ z. line_steps (tag_at z)) c.in-99.is) c.expression_new_array.ensures

pub returns-in-100 : goal.returns-in-100
unfolding tag_at
returns-in-100 g c = runs_as (ap (λ z. line_steps (tag_at z)) c.in-100.is) c.expression_global_new_array.ensures

pub returns-in-101 : goal.returns-in-101
unfolding tag_at
returns-in-101 g c = runs_as (ap (λ z. line_steps (tag_at z)) c.in-101.is) c.expression_delete.ensures

pub returns-in-102 : goal.returns-in-102
unfolding tag_at
returns-in-102 g c = runs_as (ap (λ z. line_steps (tag_at z)) c.in-102.is) c.expression_global_delete.ensures

pub returns-in-103 : goal.returns-in-103
unfolding tag_at
returns-in-103 g c = runs_as (ap (λ z. line_steps (tag_at z)) c.in-103.is) c.expression_delete_array.ensures

pub returns-in-104 : goal.returns-in-104
unfolding tag_at
returns-in-104 g c = runs_as (ap (λ z. line_steps (tag_at z)) c.in-104.is) c.expression_global_delete_array.ensures

pub returns-in-105 : goal.returns-in-105
unfolding tag_at
returns-in-105 g c = runs_as (ap (λ z. line_steps (tag_at z)) c.in-105.is) c.expression_dynamic_cast.ensures

pub returns-in-106 : goal.returns-in-106
unfolding tag_at
returns-in-106 g c = runs_as (ap (λ z. line_steps (tag_at z)) c.in-106.is) c.expression_static_cast.ensures

pub returns-in-107 : goal.returns-in-107
unfolding tag_at
returns-in-107 g c = runs_as (ap (λ z. line_steps (tag_at z)) c.in-107.is) c.expression_const_cast.ensures

pub returns-in-108 : goal.returns-in-108
unfolding tag_at
returns-in-108 g c = runs_as (ap (λ z. line_steps (tag_at z)) c.in-108.is) c.expression_reinterpret_cast.ensures

pub returns-in-109 : goal.returns-in-109
unfolding tag_at
returns-in-109 g c = runs_as (ap (λ z. line_steps (tag_at z)) c.in-109.is) c.expression_typeid_type.ensures

pub returns-in-110 : goal.returns-in-110
unfolding tag_at line_steps
returns-in-110 g c = runs_as (ap (λ z. line_steps (tag_at z)) c.in-110.is) c.expression_typeid_type-in-110.ensures

pub returns-in-111 : goal.returns-in-111
unfolding tag_at
returns-in-111 g c = runs_as (ap (λ z. line_steps (tag_at z)) c.in-111.is) c.expression_sizeof_type.ensures

pub returns-in_default : goal.returns-in_default
returns-in_default g c = absurd (omega (arith, c.requires.block, c.in_default))
