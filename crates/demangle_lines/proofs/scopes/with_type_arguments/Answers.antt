use Rattle.std.proofs.Common.{◌≡◌, ℕ, ◌+◌, ◌<◌, true, false, [], ◌∷◌, length, drop, Some, None, option_map, refl, sym, ◌∙◌, ap, codes, pos, ◌+ℤ◌, arith, add-one}
use Rattle.demangle_core.specs.Core.{Core}
use Rattle.demangle_printing.specs.Act.{Act, done, block, text, call, pop, ask, inside, named}
use Rattle.demangle_printing.specs.Scope.{Scope, scope_leaf, scope_argument, with_args, with_leaf, in_member}
use Rattle.demangle_printing.specs.World.{nth, parts, find, listed, see}
use Rattle.demangle_printing.specs.Rules.{line_for, line_of, lines_of, members_of, inner_of, of_part, leaf_act, leaf_seen, leaf_name_of, args_of, turns}
use Rattle.demangle_printing.specs.Reader.{input_text, spelled_act, operand_in, is_bare, bytes_seen, index_seen, need_leaf, found_leaf, argument_act, texts, spaced_if}
use Rattle.demangle_printing.specs.Texts.{characters, without_sign, ordinal_of}
use Rattle.demangle_meets.specs.Meets.{Inner, ListRemains, MembersRemain, Meets, Remains}
use Rattle.demangle_meets.specs.Place.{world_of}
use Rattle.demangle_meets.specs.Calls.{Pushes}
use Rattle.demangle_meets.proofs.Acts.{meets_done, meets_text, meets_block, meets_space, meets_fail, meets_named, closes_own, closes_other}
use Rattle.demangle_meets.proofs.Lines.{meets_rest, meets_taken, meets_taken_none}
use Rattle.demangle_meets.proofs.Parts.{meets_at, meets_deep, meets_line}
use Rattle.demangle_context.specs.PageOf.{page}
use Rattle.demangle_lines.specs.ScopeOf.{lent_scope, stack_scope}
use Rattle.demangle_lines.proofs.Lists.{list_first, list_next, list_over, list_none, members_first, members_next, members_over, members_none}
use Rattle.demangle_lines.proofs.Shapes.{spelled_bytes, spelled_number, spelled_word, spelled_nothing, spelled_node, spelled_flag, ordinal_number, no_ordinal}
use Rattle.demangle_lines.specs.Shapes.{flag_shape, is_tag, is_word_shape, is_number, leaf_text_seen, number_of, shape_in, text_seen, value_seen}
use Rattle.demangle_lines.specs.Pieces.{name_act, suffix_act}
use Rattle.demangle_lines.proofs.Places.{at_table}
use Rattle.demangle_lines.proofs.Shapes.{no_bytes}
use Rattle.demangle_lines.proofs.Numbers.{text_as, natural_sum, natural_difference}
use Rattle.std.specs.Fmt.{decimal, signed_decimal}
use Rattle.std.proofs.lemmas.Int.{ints, to_z-of_z}
use Rattle.std.proofs.Common.{rules, ◌-◌}
use mir.Syntax.{w64}
use mir.Val.{SFits}
use Rattle.demangle_core.specs.Lookups.{as_prefix, as_type}
use Rattle.demangle_lines.proofs.scopes.with_type_arguments.Goals as goal

pub returns : goal.returns
returns g c = c.found_arguments.ensures ∙ ap (λ y. with_args y (lent_scope g.T.InnerNode.tree c.args.scope)) (c.type_arguments_of-found.ensures ∙ ap (λ y. args_of (world_of (g.B.Below.at c.args.below).refers) as_type y) c.part_at.ensures)
