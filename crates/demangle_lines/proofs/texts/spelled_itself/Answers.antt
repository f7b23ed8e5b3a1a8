use Rattle.std.proofs.Common.{◌≡◌, ℕ, ◌+◌, ◌<◌, true, false, [], ◌∷◌, length, drop, Some, None, option_map, refl, sym, ◌∙◌, ap, codes, pos, ◌+ℤ◌, arith, add-one}
use Rattle.demangle_core.specs.Core.{Core}
use Rattle.demangle_printing.specs.Act.{Act, done, block, text, call, pop, ask, inside, named}
use Rattle.demangle_printing.specs.Scope.{Scope, scope_leaf, scope_argument, with_args, with_leaf, in_member}
use Rattle.demangle_printing.specs.World.{nth, parts, find, listed, see}
use Rattle.demangle_printing.specs.Rules.{line_for, line_of, lines_of, members_of, inner_of, of_part, leaf_act, leaf_seen, leaf_name_of, args_of, turns}
use Rattle.demangle_printing.specs.Reader.{input_text, spelled_act, operand_in, is_bare, bytes_seen, index_seen, need_leaf, found_leaf, argument_act, texts, spaced_if}
use Rattle.demangle_printing.specs.Texts.{characters, without_sign, ordinal_of}
use Rattle.demangle_meets.specs.Meets.{Inner, ListRemains, MembersRemain, Meets, Remains}
use Rattle.demangle_meets.specs.Place.{world_of}
use Rattle.demangle_meets.specs.Calls.{Pushes}
use Rattle.demangle_meets.proofs.Acts.{meets_done, meets_text, meets_block, meets_space, meets_fail, meets_named, closes_own, closes_other}
use Rattle.demangle_meets.proofs.Lines.{meets_rest, meets_taken, meets_taken_none}
use Rattle.demangle_meets.proofs.Parts.{meets_at, meets_deep, meets_line}
use Rattle.demangle_context.specs.PageOf.{page}
use Rattle.demangle_lines.specs.ScopeOf.{lent_scope, stack_scope}
use Rattle.demangle_lines.proofs.Lists.{list_first, list_next, list_over, list_none, members_first, members_next, members_over, members_none}
use Rattle.demangle_lines.proofs.Shapes.{spelled_bytes, spelled_number, spelled_word, spelled_nothing, spelled_node, spelled_flag, ordinal_number, no_ordinal}
use Rattle.demangle_lines.specs.Shapes.{flag_shape, is_tag, is_word_shape, is_number, leaf_text_seen, number_of, shape_in, text_seen, value_seen}
use Rattle.demangle_lines.specs.Pieces.{name_act, suffix_act}
use Rattle.demangle_lines.proofs.Places.{at_table}
use Rattle.demangle_lines.proofs.Shapes.{no_bytes}
use Rattle.demangle_lines.proofs.Numbers.{text_as, natural_sum, natural_difference}
use Rattle.std.specs.Fmt.{decimal, signed_decimal}
use Rattle.std.proofs.lemmas.Int.{ints, to_z-of_z}
use Rattle.std.proofs.Common.{rules, ◌-◌}
use mir.Syntax.{w64}
use mir.Val.{SFits}
use Rattle.demangle_lines.proofs.texts.spelled_itself.Goals as goal

pub returns-in-Nothing : goal.returns-in-Nothing
returns-in-Nothing g c = meets_at (λ y. y) (spelled_nothing ((world_of (g.B.Below.at c.args.below).refers).look (g.T.InnerNode.tree c.args.tree)) c.in-Nothing.ensures) (meets_text c.text.ensures meets_done)

pub returns-in-Node : goal.returns-in-Node
returns-in-Node g c = meets_at (λ y. y) (spelled_node ((world_of (g.B.Below.at c.args.below).refers).look (g.T.InnerNode.tree c.args.tree)) c.in-Node.ensures) (meets_text c.text-in-Node.ensures meets_done)

pub returns-in-Word : goal.returns-in-Word
returns-in-Word g c = meets_at (λ y. y) (spelled_word ((world_of (g.B.Below.at c.args.below).refers).look (g.T.InnerNode.tree c.args.tree)) c.in-Word.ensures) (meets_text (rw (c.text-in-Word.ensures (g.B.Below.at c.args.below).refers.table (g.B.Below.at c.args.below).refers.input) at c.text-in-Word-2.ensures) meets_done)

pub returns-in-Number : goal.returns-in-Number
returns-in-Number g c = meets_at (λ y. y) (spelled_number ((world_of (g.B.Below.at c.args.below).refers).look (g.T.InnerNode.tree c.args.tree)) c.in-Number.ensures) (meets_text (rw (c.number.ensures (g.B.Below.at c.args.below).refers.table (g.B.Below.at c.args.below).refers.input) at c.write_number.ensures) meets_done)

pub returns-in-Flag : goal.returns-in-Flag
returns-in-Flag g c = meets_at (λ y. y) (spelled_flag ((world_of (g.B.Below.at c.args.below).refers).look (g.T.InnerNode.tree c.args.tree)) c.in-Flag.ensures) (meets_text c.text-in-Flag.ensures meets_done)

pub returns-in-Bytes : goal.returns-in-Bytes
returns-in-Bytes g c = meets_at (λ y. y) (spelled_bytes ((world_of (g.B.Below.at c.args.below).refers).look (g.T.InnerNode.tree c.args.tree)) c.in-Bytes.ensures) (meets_at input_text c.bytes_at.ensures (c.bytes_text.ensures _))
