use Rattle.std.proofs.Common.{◌≡◌, ◌/◌, ◌+◌, ◌<◌, ◌≤◌, ap, arith, refl}
use Rattle.demangle_printing.specs.Lines.{line_steps}
use Rattle.demangle_meets.proofs.Acts.{meets_block, meets_done}
use Rattle.demangle_lines.proofs.Doing.{runs_as}
use Rattle.demangle_lines_nodes.specs.Tags.{tag_at}
use Rattle.demangle_lines_nodes.proofs.Steps.{no_tag}
use Rattle.demangle_lines_nodes.proofs.nodes.line_by_tag.Goals as goal

pub returns-then-is_first_part : goal.returns-then-is_first_part
unfolding tag_at line_steps
returns-then-is_first_part g c = runs_as (c.is_first_part.ensures c.if-is_first_part.true) (record { meets = meets_block c.first_part.ensures meets_done })

pub returns-then-number-ge211 : goal.returns-then-number-ge211
returns-then-number-ge211 g c = no_tag c.args.number c.if-number-ge211.true

pub returns-in-0 : goal.returns-in-0
returns-in-0 g c = c.block_0.ensures

pub returns-in-1 : goal.returns-in-1
returns-in-1 g c = c.block_1.ensures

pub returns-in-2 : goal.returns-in-2
returns-in-2 g c = c.block_2.ensures

pub returns-in-3 : goal.returns-in-3
returns-in-3 g c = c.block_3.ensures

pub returns-in-4 : goal.returns-in-4
returns-in-4 g c = c.block_4.ensures

pub returns-in-5 : goal.returns-in-5
returns-in-5 g c = c.block_5.ensures

pub returns-in-6 : goal.returns-in-6
returns-in-6 g c = c.block_6.ensures

pub returns-in-7 : goal.returns-in-7
returns-in-7 g c = c.block_7.ensures

pub returns-in-8 : goal.returns-in-8
returns-in-8 g c = c.block_8.ensures

pub returns-in-9 : goal.returns-in-9
returns-in-9 g c = c.block_9.ensures

pub returns-in-10 : goal.returns-in-10
returns-in-10 g c = c.block_10.ensures

pub returns-in-11 : goal.returns-in-11
returns-in-11 g c = c.block_11.ensures

pub returns-in-12 : goal.returns-in-12
returns-in-12 g c = c.block_12.ensures

pub block_0-requires : goal.block_0-requires
block_0-requires g c = λ k. ((refl, tt), (c.requires, c.in-0.is))

pub block_1-requires : goal.block_1-requires
block_1-requires g c = λ k. ((refl, tt), (c.requires, c.in-1.is))

pub block_2-requires : goal.block_2-requires
block_2-requires g c = λ k. ((refl, tt), (c.requires, c.in-2.is))

pub block_3-requires : goal.block_3-requires
block_3-requires g c = λ k. ((refl, tt), (c.requires, c.in-3.is))

pub block_4-requires : goal.block_4-requires
block_4-requires g c = λ k. ((refl, tt), (c.requires, c.in-4.is))

pub block_5-requires : goal.block_5-requires
block_5-requires g c = λ k. ((refl, tt), (c.requires, c.in-5.is))

pub block_6-requires : goal.block_6-requires
block_6-requires g c = λ k. ((refl, tt), (c.requires, c.in-6.is))

pub block_7-requires : goal.block_7-requires
block_7-requires g c = λ k. ((refl, tt), (c.requires, c.in-7.is))

pub block_8-requires : goal.block_8-requires
block_8-requires g c = λ k. ((refl, tt), (c.requires, c.in-8.is))

pub block_9-requires : goal.block_9-requires
block_9-requires g c = λ k. ((refl, tt), (c.requires, c.in-9.is))

pub block_10-requires : goal.block_10-requires
block_10-requires g c = λ k. ((refl, tt), (c.requires, c.in-10.is))

pub block_11-requires : goal.block_11-requires
block_11-requires g c = λ k. ((refl, tt), (c.requires, c.in-11.is))

pub block_12-requires : goal.block_12-requires
block_12-requires g c = λ k. ((refl, tt), (c.requires, c.in-12.is))

pub block_13-requires : goal.block_13-requires
block_13-requires g c = λ k. ((refl, tt), (c.requires, omega (arith, c.in_default, c.if-number-ge211.false)))

pub returns-in_default : goal.returns-in_default
returns-in_default g c = c.block_13.ensures
