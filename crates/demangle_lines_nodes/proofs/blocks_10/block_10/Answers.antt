use Rattle.std.proofs.Common.{◌≡◌, ◌/◌, ◌+◌, ◌<◌, ◌≤◌, ap, arith, refl}
use Rattle.demangle_printing.specs.Lines.{line_steps}
use Rattle.demangle_meets.proofs.Acts.{meets_block, meets_done}
use Rattle.demangle_lines.proofs.Doing.{runs_as}
use Rattle.demangle_lines_nodes.specs.Tags.{tag_at}
use Rattle.demangle_lines_nodes.proofs.Steps.{no_tag}
use Rattle.demangle_lines_nodes.proofs.blocks_10.block_10.Goals as goal

pub returns-in-160 : goal.returns-in-160
unfolding tag_at
returns-in-160 g c = runs_as (ap (λ z. line_steps (tag_at z)) c.in-160.is) c.special_name_transaction_clone.ensures

pub returns-in-161 : goal.returns-in-161
unfolding tag_at
returns-in-161 g c = runs_as (ap (λ z. line_steps (tag_at z)) c.in-161.is) c.special_name_non_transaction_clone.ensures

pub returns-in-162 : goal.returns-in-162
unfolding tag_at
returns-in-162 g c = runs_as (ap (λ z. line_steps (tag_at z)) c.in-162.is) c.subobject_expr.ensures

pub returns-in-163 : goal.returns-in-163
unfolding tag_at
returns-in-163 g c = runs_as (ap (λ z. line_steps (tag_at z)) c.in-163.is) c.fold_expr_unary_left.ensures

pub returns-in-164 : goal.returns-in-164
unfolding tag_at
returns-in-164 g c = runs_as (ap (λ z. line_steps (tag_at z)) c.in-164.is) c.fold_expr_unary_right.ensures

pub returns-in-165 : goal.returns-in-165
unfolding tag_at
returns-in-165 g c = runs_as (ap (λ z. line_steps (tag_at z)) c.in-165.is) c.fold_expr_binary_left.ensures

pub returns-in-166 : goal.returns-in-166
unfolding tag_at line_steps
returns-in-166 g c = runs_as (ap (λ z. line_steps (tag_at z)) c.in-166.is) c.fold_expr_binary_left-in-166.ensures

pub returns-in-167 : goal.returns-in-167
unfolding tag_at
returns-in-167 g c = runs_as (ap (λ z. line_steps (tag_at z)) c.in-167.is) c.decltype_id_expression.ensures

pub returns-in-168 : goal.returns-in-168
unfolding tag_at line_steps
returns-in-168 g c = runs_as (ap (λ z. line_steps (tag_at z)) c.in-168.is) c.decltype_id_expression-in-168.ensures

pub returns-in-169 : goal.returns-in-169
unfolding tag_at
returns-in-169 g c = runs_as (ap (λ z. line_steps (tag_at z)) c.in-169.is) c.prefix_unqualified.ensures

pub returns-in-170 : goal.returns-in-170
unfolding tag_at
returns-in-170 g c = runs_as (ap (λ z. line_steps (tag_at z)) c.in-170.is) c.prefix_nested.ensures

pub returns-in-171 : goal.returns-in-171
unfolding tag_at
returns-in-171 g c = runs_as (ap (λ z. line_steps (tag_at z)) c.in-171.is) c.prefix_template.ensures

pub returns-in-172 : goal.returns-in-172
unfolding tag_at line_steps
returns-in-172 g c = runs_as (ap (λ z. line_steps (tag_at z)) c.in-172.is) c.prefix_unqualified-in-172.ensures

pub returns-in-173 : goal.returns-in-173
unfolding tag_at line_steps
returns-in-173 g c = runs_as (ap (λ z. line_steps (tag_at z)) c.in-173.is) c.prefix_unqualified-in-173.ensures

pub returns-in-174 : goal.returns-in-174
unfolding tag_at line_steps
returns-in-174 g c = runs_as (ap (λ z. line_steps (tag_at z)) c.in-174.is) c.prefix_nested-in-174.ensures

pub returns-in-175 : goal.returns-in-175
unfolding tag_at line_steps
returns-in-175 g c = runs_as (ap (λ z. line_steps (tag_at z)) c.in-175.is) c.type_node_qualified.ensures

pub returns-in_default : goal.returns-in_default
returns-in_default g c = absurd (omega (arith, c.requires.block, c.in_default))
