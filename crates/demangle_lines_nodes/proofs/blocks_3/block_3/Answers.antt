use Rattle.std.proofs.Common.{◌≡◌, ◌/◌, ◌+◌, ◌<◌, ◌≤◌, ap, arith, refl}
use Rattle.demangle_printing.specs.Lines.{line_steps}
use Rattle.demangle_meets.proofs.Acts.{meets_block, meets_done}
use Rattle.demangle_lines.proofs.Doing.{runs_as}
use Rattle.demangle_lines_nodes.specs.Tags.{tag_at}
use Rattle.demangle_lines_nodes.proofs.Steps.{no_tag}
use Rattle.demangle_lines_nodes.proofs.blocks_3.block_3.Goals as goal

pub returns-in-48 : goal.returns-in-48
unfolding tag_at line_steps
returns-in-48 g c = runs_as (ap (λ z. line_steps (tag_at z)) c.in-48.is) c.ctor_dtor_name_deleting_destructor.ensures

pub returns-in-49 : goal.returns-in-49
unfolding tag_at line_steps
returns-in-49 g c = runs_as (ap (λ z. line_steps (tag_at z)) c.in-49.is) c.ctor_dtor_name_deleting_destructor-in-49.ensures

pub returns-in-50 : goal.returns-in-50
unfolding tag_at
returns-in-50 g c = runs_as (ap (λ z. line_steps (tag_at z)) c.in-50.is) c.bare_function_type.ensures

pub returns-in-51 : goal.returns-in-51
unfolding tag_at
returns-in-51 g c = runs_as (ap (λ z. line_steps (tag_at z)) c.in-51.is) c.lambda_sig.ensures

pub returns-in-52 : goal.returns-in-52
unfolding tag_at
returns-in-52 g c = runs_as (ap (λ z. line_steps (tag_at z)) c.in-52.is) c.closure_type_name.ensures

pub returns-in-53 : goal.returns-in-53
unfolding tag_at line_steps
returns-in-53 g c = runs_as (ap (λ z. line_steps (tag_at z)) c.in-53.is) c.type_node_qualified.ensures

pub returns-in-54 : goal.returns-in-54
unfolding tag_at
returns-in-54 g c = runs_as (ap (λ z. line_steps (tag_at z)) c.in-54.is) c.unqualified_name_operator.ensures

pub returns-in-55 : goal.returns-in-55
unfolding tag_at
returns-in-55 g c = runs_as (ap (λ z. line_steps (tag_at z)) c.in-55.is) c.unqualified_name_ctor_dtor.ensures

pub returns-in-56 : goal.returns-in-56
unfolding tag_at line_steps
returns-in-56 g c = runs_as (ap (λ z. line_steps (tag_at z)) c.in-56.is) c.unqualified_name_ctor_dtor-in-56.ensures

pub returns-in-57 : goal.returns-in-57
unfolding tag_at
returns-in-57 g c = runs_as (ap (λ z. line_steps (tag_at z)) c.in-57.is) c.unqualified_name_local_source_name.ensures

pub returns-in-58 : goal.returns-in-58
unfolding tag_at line_steps
returns-in-58 g c = runs_as (ap (λ z. line_steps (tag_at z)) c.in-58.is) c.unqualified_name_ctor_dtor-in-58.ensures

pub returns-in-59 : goal.returns-in-59
unfolding tag_at line_steps
returns-in-59 g c = runs_as (ap (λ z. line_steps (tag_at z)) c.in-59.is) c.unqualified_name_ctor_dtor-in-59.ensures

pub returns-in-60 : goal.returns-in-60
unfolding tag_at line_steps
returns-in-60 g c = runs_as (ap (λ z. line_steps (tag_at z)) c.in-60.is) (record { meets = meets_block c.part.ensures meets_done })

pub returns-in-61 : goal.returns-in-61
unfolding tag_at
returns-in-61 g c = runs_as (ap (λ z. line_steps (tag_at z)) c.in-61.is) c.unscoped_name_std.ensures

pub returns-in-62 : goal.returns-in-62
unfolding tag_at line_steps
returns-in-62 g c = runs_as (ap (λ z. line_steps (tag_at z)) c.in-62.is) (record { meets = meets_block c.part-in-62.ensures meets_done })

pub returns-in-63 : goal.returns-in-63
unfolding tag_at
returns-in-63 g c = runs_as (ap (λ z. line_steps (tag_at z)) c.in-63.is) c.nested_name_unqualified.ensures

pub returns-in_default : goal.returns-in_default
returns-in_default g c = absurd (omega (arith, c.requires.block, c.in_default))
