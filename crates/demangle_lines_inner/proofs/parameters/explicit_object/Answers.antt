use Rattle.std.proofs.Common.{◌≡◌, ℕ, ◌+◌, ◌-◌, ◌<◌, true, false, [], ◌∷◌, ◌==◌, length, drop, Some, None, option_map, refl, sym, ◌∙◌, ap, codes, arith, add-one}
use Rattle.demangle_core.specs.Core.{Core, code}
use Rattle.demangle_core.specs.Lookups.{as_prefix}
use Rattle.demangle_printing.specs.Act as job
use Rattle.demangle_printing.specs.Act.{Act, done, block, text, call, pop, ask, inside}
use Rattle.demangle_printing.specs.Scope.{Scope, with_args}
use Rattle.demangle_printing.specs.World.{nth, parts, find, listed, see}
use Rattle.demangle_printing.specs.Rules.{line_of, lines_of, inner_of, inside_of, inside_node, args_of, of_handle, handle_seen, parameters_with, tag, tag_seen, turns, is_lvalue_top, is_rvalue, is_lvalue}
use Rattle.demangle_printing.specs.Arrays.{array_turns, is_array, is_array_tree, turn_node, qualified_turn}
use Rattle.demangle_printing.specs.Parameters.{any_set, is_kept, is_void, parameters_end, parameters_act, explicit_object, wants, wanted}
use Rattle.demangle_printing.specs.Print.{body}
use Rattle.demangle_meets.specs.Meets.{ArraysRemain, Inner, ListRemains, Meets, Remains, RemainsToSift, RvaluesRemain}
use Rattle.demangle_meets.specs.Place.{world_of}
use Rattle.demangle_meets.proofs.Acts.{meets_ask, meets_done, meets_text, meets_block, meets_space, meets_set}
use Rattle.demangle_meets.proofs.Around.{meets_fence}
use Rattle.demangle_meets.proofs.Lines.{meets_rest, meets_parameters}
use Rattle.demangle_meets.proofs.Sifted.{meets_sift}
use Rattle.demangle_meets.proofs.Parts.{meets_at, meets_deep, meets_line}
use Rattle.demangle_context.specs.PageOf.{page}
use Rattle.demangle_lines.specs.ScopeOf.{lent_scope, stack_scope}
use Rattle.demangle_lines.specs.Shapes.{is_tag, shape_in}
use Rattle.demangle_lines.proofs.Lists.{list_first, list_next, list_over}
use Rattle.demangle_lines.proofs.Turns.{sift_begins, sift_keeps, sift_does, sift_stops, sift_done, arrays_begin, arrays_stop, arrays_qualified, arrays_next, arrays_none, arrays_done}
use Rattle.demangle_lines_inner.specs.Kinds.{number_holds, number_turn, number_wants, turn_of, wanted_of}
use Rattle.demangle_lines_inner.proofs.Numbers.{array_code, handle_itself, handle_part, kept_there, kept_other, tag_node, tag_other, turn_other, turn_qualified, wants_code}
use Rattle.demangle_lines_inner.proofs.Types.{none_from, first_from, void_never, void_one, void_other}
use Rattle.demangle_printing.specs.Outcome.{first_state}
use Rattle.demangle_context.specs.Options.{default_options}
use Rattle.demangle_printing.specs.State.{object}
use Rattle.demangle_lines_inner.proofs.parameters.explicit_object.Goals as goal

pub returns-then-is_on : goal.returns-then-is_on
returns-then-is_on g c = λ p.
    meets_at (λ b. explicit_object (world_of p.refers) b) (sym c.if-is_on.true ∙ c.is_on.ensures)
    (meets_text c.text.ensures (meets_set {i = object} {v = false} c.turn.ensures meets_done))

pub returns-else-is_on : goal.returns-else-is_on
returns-else-is_on g c = λ p.
    meets_at (λ b. explicit_object (world_of p.refers) b) (sym c.if-is_on.false ∙ c.is_on.ensures) meets_done
