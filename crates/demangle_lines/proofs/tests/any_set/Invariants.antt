use Rattle.std.proofs.Common.{◌≡◌, ℕ, ◌+◌, ◌<◌, ◌||◌, ◌&&◌, true, false, [], ◌∷◌, length, drop, Some, None, option_map, refl, sym, ◌∙◌, ap, is_some, bytes_eq, arith}
use Rattle.demangle_core.specs.Core.{Core}
use Rattle.demangle_printing.specs.World.{nth, parts, find, listed, see}
use Rattle.demangle_printing.specs.Rules.{is_set, is_seen_word, tag_seen, args_of, tag}
use Rattle.demangle_printing.specs.Reader.{bytes_seen, is_bare, is_bare_node, is_external, is_present, is_special_tree}
use Rattle.demangle_printing.specs.Texts.{is_anonymous, is_negative}
use Rattle.demangle_printing.specs.Parameters.{any_set}
use Rattle.demangle_core.specs.Lookups.{as_prefix, as_type}
use Rattle.demangle_meets.specs.Place.{world_of}
use Rattle.demangle_lines.specs.Shapes.{flag_shape, is_tag, is_word_shape, is_number, shape_in, text_seen, value_seen}
use Rattle.demangle_lines.proofs.Shapes.{external_is, present_is, set_is, word_is, bare_param, bare_primary, bare_other}
use Rattle.demangle_lines.proofs.Lists.{any_first, any_here, any_next, any_over}
use Rattle.demangle_lines.proofs.tests.any_set.Given as goal

abbrev pub invariant-loop-number : goal.invariant-loop-number
invariant-loop-number g l =
    any_set (world_of (g.B.Below.at l.below).refers) (listed (world_of (g.B.Below.at l.below).refers) (option_map g.T.InnerNode.tree l.list))
    ≡ any_set (world_of (g.B.Below.at l.below).refers) (drop l.number (listed (world_of (g.B.Below.at l.below).refers) (option_map g.T.InnerNode.tree l.list)))
