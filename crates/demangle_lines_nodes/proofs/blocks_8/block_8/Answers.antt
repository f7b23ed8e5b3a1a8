use Rattle.std.proofs.Common.{◌≡◌, ◌/◌, ◌+◌, ◌<◌, ◌≤◌, ap, arith, refl}
use Rattle.demangle_printing.specs.Lines.{line_steps}
use Rattle.demangle_meets.proofs.Acts.{meets_block, meets_done}
use Rattle.demangle_lines.proofs.Doing.{runs_as}
use Rattle.demangle_lines_nodes.specs.Tags.{tag_at}
use Rattle.demangle_lines_nodes.proofs.Steps.{no_tag}
use Rattle.demangle_lines_nodes.proofs.blocks_8.block_8.Goals as goal

pub returns-in-128 : goal.returns-in-128
unfolding tag_at
returns-in-128 g c = runs_as (ap (λ z. line_steps (tag_at z)) c.in-128.is) c.expression_rethrow.ensures

pub returns-in-129 : goal.returns-in-129
unfolding tag_at line_steps
returns-in-129 g c = runs_as (ap (λ z. line_steps (tag_at z)) c.in-129.is) (record { meets = meets_block c.part.ensures meets_done })

pub returns-in-130 : goal.returns-in-130
unfolding tag_at line_steps
returns-in-130 g c = runs_as (ap (λ z. line_steps (tag_at z)) c.in-130.is) (record { meets = meets_block c.part-in-130.ensures meets_done })

pub returns-in-131 : goal.returns-in-131
unfolding tag_at line_steps
returns-in-131 g c = runs_as (ap (λ z. line_steps (tag_at z)) c.in-131.is) (record { meets = meets_block c.part-in-131.ensures meets_done })

pub returns-in-132 : goal.returns-in-132
unfolding tag_at
returns-in-132 g c = runs_as (ap (λ z. line_steps (tag_at z)) c.in-132.is) c.unresolved_name_global.ensures

pub returns-in-133 : goal.returns-in-133
unfolding tag_at
returns-in-133 g c = runs_as (ap (λ z. line_steps (tag_at z)) c.in-133.is) c.unresolved_name_nested1.ensures

pub returns-in-134 : goal.returns-in-134
unfolding tag_at
returns-in-134 g c = runs_as (ap (λ z. line_steps (tag_at z)) c.in-134.is) c.unresolved_name_nested2.ensures

pub returns-in-135 : goal.returns-in-135
unfolding tag_at
returns-in-135 g c = runs_as (ap (λ z. line_steps (tag_at z)) c.in-135.is) c.unresolved_name_global_nested2.ensures

pub returns-in-136 : goal.returns-in-136
unfolding tag_at line_steps
returns-in-136 g c = runs_as (ap (λ z. line_steps (tag_at z)) c.in-136.is) (record { meets = meets_block c.part-in-136.ensures meets_done })

pub returns-in-137 : goal.returns-in-137
unfolding tag_at line_steps
returns-in-137 g c = runs_as (ap (λ z. line_steps (tag_at z)) c.in-137.is) c.type_node_template_template.ensures

pub returns-in-138 : goal.returns-in-138
unfolding tag_at line_steps
returns-in-138 g c = runs_as (ap (λ z. line_steps (tag_at z)) c.in-138.is) (record { meets = meets_block c.part-in-138.ensures meets_done })

pub returns-in-139 : goal.returns-in-139
unfolding tag_at line_steps
returns-in-139 g c = runs_as (ap (λ z. line_steps (tag_at z)) c.in-139.is) c.type_node_template_template-in-139.ensures

pub returns-in-140 : goal.returns-in-140
unfolding tag_at line_steps
returns-in-140 g c = runs_as (ap (λ z. line_steps (tag_at z)) c.in-140.is) (record { meets = meets_block c.part-in-140.ensures meets_done })

pub returns-in-141 : goal.returns-in-141
unfolding tag_at
returns-in-141 g c = runs_as (ap (λ z. line_steps (tag_at z)) c.in-141.is) c.destructor_name_unresolved.ensures

pub returns-in-142 : goal.returns-in-142
unfolding tag_at line_steps
returns-in-142 g c = runs_as (ap (λ z. line_steps (tag_at z)) c.in-142.is) c.destructor_name_unresolved-in-142.ensures

pub returns-in-143 : goal.returns-in-143
unfolding tag_at
returns-in-143 g c = runs_as (ap (λ z. line_steps (tag_at z)) c.in-143.is) c.expr_primary_literal.ensures

pub returns-in_default : goal.returns-in_default
returns-in_default g c = absurd (omega (arith, c.requires.block, c.in_default))
