use Rattle.std.proofs.Common.{ap}
use Rattle.demangle_printing.specs.Lines.{line_steps}
use Rattle.demangle_lines_nodes.specs.Tags.{tag_at}
use Rattle.demangle_lines_nodes.proofs.nodes.is_upper_first_part.Goals as goal

pub returns-in-116 : goal.returns-in-116
unfolding tag_at line_steps
returns-in-116 c = λ _. ap (λ z. line_steps (tag_at z)) c.in-116.is

pub returns-in-117 : goal.returns-in-117
unfolding tag_at line_steps
returns-in-117 c = λ _. ap (λ z. line_steps (tag_at z)) c.in-117.is

pub returns-in-118 : goal.returns-in-118
unfolding tag_at line_steps
returns-in-118 c = λ _. ap (λ z. line_steps (tag_at z)) c.in-118.is

pub returns-in-126 : goal.returns-in-126
unfolding tag_at line_steps
returns-in-126 c = λ _. ap (λ z. line_steps (tag_at z)) c.in-126.is

pub returns-in-129 : goal.returns-in-129
unfolding tag_at line_steps
returns-in-129 c = λ _. ap (λ z. line_steps (tag_at z)) c.in-129.is

pub returns-in-130 : goal.returns-in-130
unfolding tag_at line_steps
returns-in-130 c = λ _. ap (λ z. line_steps (tag_at z)) c.in-130.is

pub returns-in-131 : goal.returns-in-131
unfolding tag_at line_steps
returns-in-131 c = λ _. ap (λ z. line_steps (tag_at z)) c.in-131.is

pub returns-in-136 : goal.returns-in-136
unfolding tag_at line_steps
returns-in-136 c = λ _. ap (λ z. line_steps (tag_at z)) c.in-136.is

pub returns-in-138 : goal.returns-in-138
unfolding tag_at line_steps
returns-in-138 c = λ _. ap (λ z. line_steps (tag_at z)) c.in-138.is

pub returns-in-140 : goal.returns-in-140
unfolding tag_at line_steps
returns-in-140 c = λ _. ap (λ z. line_steps (tag_at z)) c.in-140.is

pub returns-in-180 : goal.returns-in-180
unfolding tag_at line_steps
returns-in-180 c = λ _. ap (λ z. line_steps (tag_at z)) c.in-180.is

pub returns-in-187 : goal.returns-in-187
unfolding tag_at line_steps
returns-in-187 c = λ _. ap (λ z. line_steps (tag_at z)) c.in-187.is

pub returns-in-188 : goal.returns-in-188
unfolding tag_at line_steps
returns-in-188 c = λ _. ap (λ z. line_steps (tag_at z)) c.in-188.is

pub returns-in-189 : goal.returns-in-189
unfolding tag_at line_steps
returns-in-189 c = λ _. ap (λ z. line_steps (tag_at z)) c.in-189.is

pub returns-in-190 : goal.returns-in-190
unfolding tag_at line_steps
returns-in-190 c = λ _. ap (λ z. line_steps (tag_at z)) c.in-190.is

pub returns-in-191 : goal.returns-in-191
unfolding tag_at line_steps
returns-in-191 c = λ _. ap (λ z. line_steps (tag_at z)) c.in-191.is

pub returns-in-192 : goal.returns-in-192
unfolding tag_at line_steps
returns-in-192 c = λ _. ap (λ z. line_steps (tag_at z)) c.in-192.is

pub returns-in-194 : goal.returns-in-194
unfolding tag_at line_steps
returns-in-194 c = λ _. ap (λ z. line_steps (tag_at z)) c.in-194.is

pub returns-in-204 : goal.returns-in-204
unfolding tag_at line_steps
returns-in-204 c = λ _. ap (λ z. line_steps (tag_at z)) c.in-204.is
