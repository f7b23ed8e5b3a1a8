use Rattle.std.proofs.Common.{◌≡◌, ℕ, ◌+◌, ◌<◌, true, false, [], ◌∷◌, length, drop, Some, None, option_map, refl, sym, ◌∙◌, ap, codes, pos, ◌+ℤ◌, arith, add-one}
use Rattle.demangle_core.specs.Core.{Core}
use Rattle.demangle_printing.specs.Act.{Act, done, block, text, call, pop, ask, inside, named}
use Rattle.demangle_printing.specs.Scope.{Scope, scope_leaf, scope_argument, with_args, with_leaf, in_member}
use Rattle.demangle_printing.specs.World.{nth, parts, find, listed, see}
use Rattle.demangle_printing.specs.Rules.{line_for, line_of, lines_of, members_of, inner_of, of_part, leaf_act, leaf_seen, leaf_name_of, args_of, turns}
use Rattle.demangle_printing.specs.Reader.{input_text, spelled_act, operand_in, is_bare, bytes_seen, index_seen, need_leaf, found_leaf, argument_act, texts, spaced_if}
use Rattle.demangle_printing.specs.Texts.{characters, without_sign, ordinal_of}
use Rattle.demangle_meets.specs.Meets.{Inner, ListRemains, MembersRemain, Meets, Remains}
use Rattle.demangle_meets.specs.Place.{world_of}
use Rattle.demangle_meets.specs.Calls.{Pushes}
use Rattle.demangle_meets.proofs.Acts.{meets_done, meets_text, meets_block, meets_space, meets_fail, meets_named, closes_own, closes_other}
use Rattle.demangle_meets.proofs.Lines.{meets_rest, meets_taken, meets_taken_none}
use Rattle.demangle_meets.proofs.Parts.{meets_at, meets_deep, meets_line}
use Rattle.demangle_context.specs.PageOf.{page}
use Rattle.demangle_lines.specs.ScopeOf.{lent_scope, stack_scope}
use Rattle.demangle_lines.proofs.Lists.{list_first, list_next, list_over, list_none, members_first, members_next, members_over, members_none}
use Rattle.demangle_lines.proofs.Shapes.{spelled_bytes, spelled_number, spelled_word, spelled_nothing, spelled_node, spelled_flag, ordinal_number, no_ordinal}
use Rattle.demangle_lines.specs.Shapes.{flag_shape, is_tag, is_word_shape, is_number, leaf_text_seen, number_of, shape_in, text_seen, value_seen}
use Rattle.demangle_lines.specs.Pieces.{name_act, suffix_act}
use Rattle.demangle_lines.proofs.Places.{at_table}
use Rattle.demangle_lines.proofs.Shapes.{no_bytes}
use Rattle.demangle_lines.proofs.Numbers.{text_as, natural_sum, natural_difference}
use Rattle.std.specs.Fmt.{decimal, signed_decimal}
use Rattle.std.proofs.lemmas.Int.{ints, to_z-of_z}
use Rattle.std.proofs.Common.{rules, ◌-◌}
use mir.Syntax.{w64}
use mir.Val.{SFits}
use Rattle.std.specs.Prelude.{Ok, Err}
use Rattle.demangle_printing.specs.Act as job
use Rattle.demangle_printing.specs.Print.{body, source_or, steps_for}
use Rattle.demangle_meets.proofs.Acts.{meets_ask, meets_call}
use Rattle.demangle_meets.proofs.Parts.{meets_deep, meets_line}
use Rattle.demangle_context.specs.TroubleOf.{fault_of}
use Rattle.demangle_printing.specs.State.{BadLeafNameReference}
use Rattle.demangle_lines.proofs.LeafNames.{leaf_of_source, leaf_of_closure, leaf_of_unnamed, leaf_of_word, leaf_of_other}
use Rattle.demangle_lines.proofs.leaves.leaf_found.Goals as goal

pub returns-in-None : goal.returns-in-None
returns-in-None g c = meets_at (λ y. leaf_act (world_of (g.B.Below.at c.args.below).refers) (found_leaf (world_of (g.B.Below.at c.args.below).refers) (option_map g.T.InnerNode.tree y))) (sym c.in-None.is) (meets_fail c.fail.ensures)

pub returns-in-Some : goal.returns-in-Some
returns-in-Some g c = meets_at (λ y. leaf_act (world_of (g.B.Below.at c.args.below).refers) (found_leaf (world_of (g.B.Below.at c.args.below).refers) (option_map g.T.InnerNode.tree y))) (sym c.in-Some.is) c.leaf_line.ensures
