use Rattle.std.proofs.Common.{◌≡◌, ℕ, ◌+◌, ◌<◌, true, false, [], ◌∷◌, length, drop, Some, None, option_map, refl, sym, ◌∙◌, ap, codes, pos, ◌+ℤ◌, arith, add-one}
use Rattle.demangle_core.specs.Core.{Core}
use Rattle.demangle_printing.specs.Act.{Act, done, block, text, call, pop, ask, inside, named}
use Rattle.demangle_printing.specs.Scope.{Scope, scope_leaf, scope_argument, with_args, with_leaf, in_member}
use Rattle.demangle_printing.specs.World.{nth, parts, find, listed, see}
use Rattle.demangle_printing.specs.Rules.{line_for, line_of, lines_of, members_of, inner_of, of_part, leaf_act, leaf_seen, leaf_name_of, args_of, turns}
use Rattle.demangle_printing.specs.Reader.{input_text, spelled_act, operand_in, is_bare, bytes_seen, index_seen, need_leaf, found_leaf, argument_act, texts, spaced_if}
use Rattle.demangle_printing.specs.Texts.{characters, without_sign, ordinal_of}
use Rattle.demangle_meets.specs.Meets.{Inner, ListRemains, MembersRemain, Meets, Remains}
use Rattle.demangle_meets.specs.Place.{world_of}
use Rattle.demangle_meets.specs.Calls.{Pushes}
use Rattle.demangle_meets.proofs.Acts.{meets_done, meets_text, meets_block, meets_space, meets_fail, meets_named, closes_own, closes_other}
use Rattle.demangle_meets.proofs.Lines.{meets_rest, meets_taken, meets_taken_none}
use Rattle.demangle_meets.proofs.Parts.{meets_at, meets_deep, meets_line}
use Rattle.demangle_context.specs.PageOf.{page}
use Rattle.demangle_lines.specs.ScopeOf.{lent_scope, stack_scope}
use Rattle.demangle_lines.proofs.Lists.{list_first, list_next, list_over, list_none, members_first, members_next, members_over, members_none}
use Rattle.demangle_lines.proofs.Shapes.{spelled_bytes, spelled_number, spelled_word, spelled_nothing, spelled_node, spelled_flag, ordinal_number, no_ordinal}
use Rattle.demangle_printing.specs.Trees.{began_at}
use Rattle.demangle_lines.proofs.parts.members.Goals as goal

pub returns-then-count-eq0 : goal.returns-then-count-eq0
returns-then-count-eq0 g c = meets_at (λ y. members_of (world_of (g.B.Below.at c.args.below).refers) (began_at (g.T.InnerNode.tree c.args.tree)) (listed (world_of (g.B.Below.at c.args.below).refers) y) (lent_scope g.T.InnerNode.tree c.args.scope)) c.part_at-list.ensures (members_none (lent_scope g.T.InnerNode.tree c.args.scope) (began_at (g.T.InnerNode.tree c.args.tree)) (listed (world_of (g.B.Below.at c.args.below).refers) (option_map g.T.InnerNode.tree c.part_at-list.result)) (sym c.count_of-count.ensures ∙ c.if-count-eq0.true))

pub loop-index-init : goal.loop-index-init
loop-index-init g c = members_first (lent_scope g.T.InnerNode.tree c.args.scope) (began_at (g.T.InnerNode.tree c.args.tree)) (listed (world_of (g.B.Below.at c.args.below).refers) (option_map g.T.InnerNode.tree c.part_at-list.result)) (omega (arith, c.count_of-count.ensures, c.if-count-eq0.false)) c.argument_line.ensures

pub loop-index-preserved : goal.loop-index-preserved
loop-index-preserved g c = members_next c.loop-index.index (listed (world_of (g.B.Below.at c.args.below).refers) (option_map g.T.InnerNode.tree c.part_at-list.result)) (omega (arith, c.count_of-count.ensures, c.loop-index-test.true)) c.loop-index.invariant c.text.ensures c.argument_line-in-loop-index.ensures

pub returns : goal.returns
returns g c = meets_at (λ y. members_of (world_of (g.B.Below.at c.args.below).refers) (began_at (g.T.InnerNode.tree c.args.tree)) (listed (world_of (g.B.Below.at c.args.below).refers) y) (lent_scope g.T.InnerNode.tree c.args.scope)) c.part_at-list.ensures (members_over c.loop-index.index (listed (world_of (g.B.Below.at c.args.below).refers) (option_map g.T.InnerNode.tree c.part_at-list.result)) (omega (arith, c.count_of-count.ensures, c.loop-index-test.false)) c.loop-index.invariant)
