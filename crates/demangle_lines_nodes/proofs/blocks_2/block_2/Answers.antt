use Rattle.std.proofs.Common.{◌≡◌, ◌/◌, ◌+◌, ◌<◌, ◌≤◌, ap, arith, refl}
use Rattle.demangle_printing.specs.Lines.{line_steps}
use Rattle.demangle_meets.proofs.Acts.{meets_block, meets_done}
use Rattle.demangle_lines.proofs.Doing.{runs_as}
use Rattle.demangle_lines_nodes.specs.Tags.{tag_at}
use Rattle.demangle_lines_nodes.proofs.Steps.{no_tag}
use Rattle.demangle_lines_nodes.proofs.blocks_2.block_2.Goals as goal

pub returns-in-32 : goal.returns-in-32
unfolding tag_at
returns-in-32 g c = runs_as (ap (λ z. line_steps (tag_at z)) c.in-32.is) c.parametric_builtin_type_float_nx.ensures

pub returns-in-33 : goal.returns-in-33
unfolding tag_at
returns-in-33 g c = runs_as (ap (λ z. line_steps (tag_at z)) c.in-33.is) c.parametric_builtin_type_signed_bit_int.ensures

pub returns-in-34 : goal.returns-in-34
unfolding tag_at
returns-in-34 g c = runs_as (ap (λ z. line_steps (tag_at z)) c.in-34.is) c.parametric_builtin_type_unsigned_bit_int.ensures

pub returns-in-35 : goal.returns-in-35
unfolding tag_at
returns-in-35 g c = runs_as (ap (λ z. line_steps (tag_at z)) c.in-35.is) c.parametric_builtin_type_signed_bit_int_expression.ensures

pub returns-in-36 : goal.returns-in-36
unfolding tag_at
returns-in-36 g c = runs_as (ap (λ z. line_steps (tag_at z)) c.in-36.is) c.parametric_builtin_type_unsigned_bit_int_expression.ensures

pub returns-in-37 : goal.returns-in-37
unfolding tag_at
returns-in-37 g c = runs_as (ap (λ z. line_steps (tag_at z)) c.in-37.is) c.operator_name_simple.ensures

pub returns-in-38 : goal.returns-in-38
unfolding tag_at
returns-in-38 g c = runs_as (ap (λ z. line_steps (tag_at z)) c.in-38.is) c.operator_name_cast.ensures

pub returns-in-39 : goal.returns-in-39
unfolding tag_at line_steps
returns-in-39 g c = runs_as (ap (λ z. line_steps (tag_at z)) c.in-39.is) c.operator_name_cast-in-39.ensures

pub returns-in-40 : goal.returns-in-40
unfolding tag_at
returns-in-40 g c = runs_as (ap (λ z. line_steps (tag_at z)) c.in-40.is) c.operator_name_literal.ensures

pub returns-in-41 : goal.returns-in-41
unfolding tag_at
returns-in-41 g c = runs_as (ap (λ z. line_steps (tag_at z)) c.in-41.is) c.operator_name_vendor_extension.ensures

pub returns-in-42 : goal.returns-in-42
unfolding tag_at
returns-in-42 g c = runs_as (ap (λ z. line_steps (tag_at z)) c.in-42.is) c.ctor_dtor_name_complete_constructor.ensures

pub returns-in-43 : goal.returns-in-43
unfolding tag_at line_steps
returns-in-43 g c = runs_as (ap (λ z. line_steps (tag_at z)) c.in-43.is) c.ctor_dtor_name_complete_constructor-in-43.ensures

pub returns-in-44 : goal.returns-in-44
unfolding tag_at line_steps
returns-in-44 g c = runs_as (ap (λ z. line_steps (tag_at z)) c.in-44.is) c.ctor_dtor_name_complete_constructor-in-44.ensures

pub returns-in-45 : goal.returns-in-45
unfolding tag_at line_steps
returns-in-45 g c = runs_as (ap (λ z. line_steps (tag_at z)) c.in-45.is) c.ctor_dtor_name_complete_constructor-in-45.ensures

pub returns-in-46 : goal.returns-in-46
unfolding tag_at
returns-in-46 g c = runs_as (ap (λ z. line_steps (tag_at z)) c.in-46.is) c.ctor_dtor_name_deleting_destructor.ensures

pub returns-in-47 : goal.returns-in-47
unfolding tag_at line_steps
returns-in-47 g c = runs_as (ap (λ z. line_steps (tag_at z)) c.in-47.is) c.ctor_dtor_name_deleting_destructor-in-47.ensures

pub returns-in_default : goal.returns-in_default
returns-in_default g c = absurd (omega (arith, c.requires.block, c.in_default))
