use Rattle.std.proofs.Common.{◌≡◌, ◌/◌, ◌+◌, ◌<◌, ◌≤◌, ap, arith, refl}
use Rattle.demangle_printing.specs.Lines.{line_steps}
use Rattle.demangle_meets.proofs.Acts.{meets_block, meets_done}
use Rattle.demangle_lines.proofs.Doing.{runs_as}
use Rattle.demangle_lines_nodes.specs.Tags.{tag_at}
use Rattle.demangle_lines_nodes.proofs.Steps.{no_tag}
use Rattle.demangle_lines_nodes.proofs.blocks_7.block_7.Goals as goal

pub returns-in-112 : goal.returns-in-112
unfolding tag_at line_steps
returns-in-112 g c = runs_as (ap (λ z. line_steps (tag_at z)) c.in-112.is) c.expression_sizeof_type.ensures

pub returns-in-113 : goal.returns-in-113
unfolding tag_at
returns-in-113 g c = runs_as (ap (λ z. line_steps (tag_at z)) c.in-113.is) c.expression_alignof_type.ensures

pub returns-in-114 : goal.returns-in-114
unfolding tag_at line_steps
returns-in-114 g c = runs_as (ap (λ z. line_steps (tag_at z)) c.in-114.is) c.expression_alignof_type-in-114.ensures

pub returns-in-115 : goal.returns-in-115
unfolding tag_at
returns-in-115 g c = runs_as (ap (λ z. line_steps (tag_at z)) c.in-115.is) c.expression_noexcept.ensures

pub returns-in-116 : goal.returns-in-116
unfolding tag_at line_steps
returns-in-116 g c = runs_as (ap (λ z. line_steps (tag_at z)) c.in-116.is) (record { meets = meets_block c.part.ensures meets_done })

pub returns-in-117 : goal.returns-in-117
unfolding tag_at line_steps
returns-in-117 g c = runs_as (ap (λ z. line_steps (tag_at z)) c.in-117.is) (record { meets = meets_block c.part-in-117.ensures meets_done })

pub returns-in-118 : goal.returns-in-118
unfolding tag_at line_steps
returns-in-118 g c = runs_as (ap (λ z. line_steps (tag_at z)) c.in-118.is) (record { meets = meets_block c.part-in-118.ensures meets_done })

pub returns-in-119 : goal.returns-in-119
unfolding tag_at
returns-in-119 g c = runs_as (ap (λ z. line_steps (tag_at z)) c.in-119.is) c.expression_member.ensures

pub returns-in-120 : goal.returns-in-120
unfolding tag_at
returns-in-120 g c = runs_as (ap (λ z. line_steps (tag_at z)) c.in-120.is) c.expression_deref_member.ensures

pub returns-in-121 : goal.returns-in-121
unfolding tag_at
returns-in-121 g c = runs_as (ap (λ z. line_steps (tag_at z)) c.in-121.is) c.expression_pointer_to_member.ensures

pub returns-in-122 : goal.returns-in-122
unfolding tag_at
returns-in-122 g c = runs_as (ap (λ z. line_steps (tag_at z)) c.in-122.is) c.expression_sizeof_template_pack.ensures

pub returns-in-123 : goal.returns-in-123
unfolding tag_at line_steps
returns-in-123 g c = runs_as (ap (λ z. line_steps (tag_at z)) c.in-123.is) c.expression_sizeof_template_pack-in-123.ensures

pub returns-in-124 : goal.returns-in-124
unfolding tag_at
returns-in-124 g c = runs_as (ap (λ z. line_steps (tag_at z)) c.in-124.is) c.expression_sizeof_captured_template_pack.ensures

pub returns-in-125 : goal.returns-in-125
unfolding tag_at
returns-in-125 g c = runs_as (ap (λ z. line_steps (tag_at z)) c.in-125.is) c.expression_pack_expansion.ensures

pub returns-in-126 : goal.returns-in-126
unfolding tag_at line_steps
returns-in-126 g c = runs_as (ap (λ z. line_steps (tag_at z)) c.in-126.is) (record { meets = meets_block c.part-in-126.ensures meets_done })

pub returns-in-127 : goal.returns-in-127
unfolding tag_at
returns-in-127 g c = runs_as (ap (λ z. line_steps (tag_at z)) c.in-127.is) c.expression_throw.ensures

pub returns-in_default : goal.returns-in_default
returns-in_default g c = absurd (omega (arith, c.requires.block, c.in_default))
