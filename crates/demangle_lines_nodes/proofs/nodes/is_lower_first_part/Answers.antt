use Rattle.std.proofs.Common.{ap}
use Rattle.demangle_printing.specs.Lines.{line_steps}
use Rattle.demangle_lines_nodes.specs.Tags.{tag_at}
use Rattle.demangle_lines_nodes.proofs.nodes.is_lower_first_part.Goals as goal

pub returns-in-12 : goal.returns-in-12
unfolding tag_at line_steps
returns-in-12 c = λ _. ap (λ z. line_steps (tag_at z)) c.in-12.is

pub returns-in-23 : goal.returns-in-23
unfolding tag_at line_steps
returns-in-23 c = λ _. ap (λ z. line_steps (tag_at z)) c.in-23.is

pub returns-in-27 : goal.returns-in-27
unfolding tag_at line_steps
returns-in-27 c = λ _. ap (λ z. line_steps (tag_at z)) c.in-27.is

pub returns-in-28 : goal.returns-in-28
unfolding tag_at line_steps
returns-in-28 c = λ _. ap (λ z. line_steps (tag_at z)) c.in-28.is

pub returns-in-29 : goal.returns-in-29
unfolding tag_at line_steps
returns-in-29 c = λ _. ap (λ z. line_steps (tag_at z)) c.in-29.is

pub returns-in-60 : goal.returns-in-60
unfolding tag_at line_steps
returns-in-60 c = λ _. ap (λ z. line_steps (tag_at z)) c.in-60.is

pub returns-in-62 : goal.returns-in-62
unfolding tag_at line_steps
returns-in-62 c = λ _. ap (λ z. line_steps (tag_at z)) c.in-62.is

pub returns-in-69 : goal.returns-in-69
unfolding tag_at line_steps
returns-in-69 c = λ _. ap (λ z. line_steps (tag_at z)) c.in-69.is

pub returns-in-70 : goal.returns-in-70
unfolding tag_at line_steps
returns-in-70 c = λ _. ap (λ z. line_steps (tag_at z)) c.in-70.is

pub returns-in-76 : goal.returns-in-76
unfolding tag_at line_steps
returns-in-76 c = λ _. ap (λ z. line_steps (tag_at z)) c.in-76.is

pub returns-in-77 : goal.returns-in-77
unfolding tag_at line_steps
returns-in-77 c = λ _. ap (λ z. line_steps (tag_at z)) c.in-77.is

pub returns-in-79 : goal.returns-in-79
unfolding tag_at line_steps
returns-in-79 c = λ _. ap (λ z. line_steps (tag_at z)) c.in-79.is

pub returns-in-81 : goal.returns-in-81
unfolding tag_at line_steps
returns-in-81 c = λ _. ap (λ z. line_steps (tag_at z)) c.in-81.is

pub returns-in-82 : goal.returns-in-82
unfolding tag_at line_steps
returns-in-82 c = λ _. ap (λ z. line_steps (tag_at z)) c.in-82.is

pub returns-in-83 : goal.returns-in-83
unfolding tag_at line_steps
returns-in-83 c = λ _. ap (λ z. line_steps (tag_at z)) c.in-83.is
