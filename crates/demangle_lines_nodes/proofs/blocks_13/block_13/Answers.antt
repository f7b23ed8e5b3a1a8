use Rattle.std.proofs.Common.{◌≡◌, ◌/◌, ◌+◌, ◌<◌, ◌≤◌, ap, arith, refl}
use Rattle.demangle_printing.specs.Lines.{line_steps}
use Rattle.demangle_meets.proofs.Acts.{meets_block, meets_done}
use Rattle.demangle_lines.proofs.Doing.{runs_as}
use Rattle.demangle_lines_nodes.specs.Tags.{tag_at}
use Rattle.demangle_lines_nodes.proofs.Steps.{no_tag}
use Rattle.demangle_lines_nodes.proofs.blocks_13.block_13.Goals as goal

pub returns-in-208 : goal.returns-in-208
unfolding tag_at line_steps
returns-in-208 g c = runs_as (ap (λ z. line_steps (tag_at z)) c.in-208.is) (record { meets = meets_done })

pub returns-in-209 : goal.returns-in-209
unfolding tag_at line_steps
returns-in-209 g c = runs_as (ap (λ z. line_steps (tag_at z)) c.in-209.is) (record { meets = meets_done })

pub returns-in-210 : goal.returns-in-210
unfolding tag_at line_steps
returns-in-210 g c = runs_as (ap (λ z. line_steps (tag_at z)) c.in-210.is) (record { meets = meets_done })

pub returns-in_default : goal.returns-in_default
returns-in_default g c = no_tag c.args.number (omega (arith, c.requires.block, c.in_default))
