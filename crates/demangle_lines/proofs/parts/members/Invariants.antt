use Rattle.std.proofs.Common.{◌≡◌, ℕ, ◌+◌, ◌<◌, true, false, [], ◌∷◌, length, drop, Some, None, option_map, refl, sym, ◌∙◌, ap, codes, pos, ◌+ℤ◌, arith, add-one}
use Rattle.demangle_core.specs.Core.{Core}
use Rattle.demangle_printing.specs.Act.{Act, done, block, text, call, pop, ask, inside, named}
use Rattle.demangle_printing.specs.Scope.{Scope, scope_leaf, scope_argument, with_args, with_leaf, in_member}
use Rattle.demangle_printing.specs.World.{nth, parts, find, listed, see}
use Rattle.demangle_printing.specs.Rules.{line_for, line_of, lines_of, members_of, inner_of, of_part, leaf_act, leaf_seen, leaf_name_of, args_of, turns}
use Rattle.demangle_printing.specs.Reader.{input_text, spelled_act, operand_in, is_bare, bytes_seen, index_seen, need_leaf, found_leaf, argument_act, texts, spaced_if}
use Rattle.demangle_printing.specs.Texts.{characters, without_sign, ordinal_of}
use Rattle.demangle_meets.specs.Meets.{Inner, ListRemains, MembersRemain, Meets, Remains}
use Rattle.demangle_meets.specs.Place.{world_of}
use Rattle.demangle_meets.specs.Calls.{Pushes}
use Rattle.demangle_meets.proofs.Acts.{meets_done, meets_text, meets_block, meets_space, meets_fail, meets_named, closes_own, closes_other}
use Rattle.demangle_meets.proofs.Lines.{meets_rest, meets_taken, meets_taken_none}
use Rattle.demangle_meets.proofs.Parts.{meets_at, meets_deep, meets_line}
use Rattle.demangle_context.specs.PageOf.{page}
use Rattle.demangle_lines.specs.ScopeOf.{lent_scope, stack_scope}
use Rattle.demangle_lines.proofs.Lists.{list_first, list_next, list_over, list_none, members_first, members_next, members_over, members_none}
use Rattle.demangle_lines.proofs.Shapes.{spelled_bytes, spelled_number, spelled_word, spelled_nothing, spelled_node, spelled_flag, ordinal_number, no_ordinal}
use Rattle.demangle_printing.specs.Trees.{began_at}
use Rattle.demangle_lines.proofs.parts.members.Given as goal

abbrev pub invariant-loop-index : goal.invariant-loop-index
invariant-loop-index g l =
    MembersRemain (g.B.Below.at l.below) (page g.T.InnerNode.tree g.T.RefersTo.table g.W.DemangleWrite.seen l.fn.ctx)
    (page g.T.InnerNode.tree g.T.RefersTo.table g.W.DemangleWrite.seen l.ctx)
    (members_of (world_of (g.B.Below.at l.below).refers) (began_at (g.T.InnerNode.tree l.tree)) (listed (world_of (g.B.Below.at l.below).refers) (option_map g.T.InnerNode.tree l.list)) (lent_scope g.T.InnerNode.tree l.scope))
    l.index (began_at (g.T.InnerNode.tree l.tree)) (drop l.index (listed (world_of (g.B.Below.at l.below).refers) (option_map g.T.InnerNode.tree l.list))) (lent_scope g.T.InnerNode.tree l.scope)
