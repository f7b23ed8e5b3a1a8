use Rattle.std.proofs.Common.{sym, ◌∙◌}
use Rattle.demangle_printing.specs.Act.{block, done}
use Rattle.demangle_printing.specs.Rules.{line_of}
use Rattle.demangle_printing.specs.State.{is_on, params}
use Rattle.demangle_meets.specs.Place.{world_of}
use Rattle.demangle_meets.proofs.Acts.{meets_choose_off, meets_choose_on, meets_done}
use Rattle.demangle_meets.proofs.Around.{meets_held}
use Rattle.demangle_meets.proofs.Parts.{meets_at, meets_part}
use Rattle.demangle_scope.specs.ScopeOf.{scope_of}
use Rattle.demangle_print_names.proofs.Functions.{function_name}
use Rattle.demangle_print_names.proofs.encodings.name_and_parameters.Goals as goal

pub returns-then-is_on : goal.returns-then-is_on
returns-then-is_on g c =
    meets_choose_on (λ s. is_on params s.flags) _ (λ _. sym c.is_on.ensures ∙ c.if-is_on.true)
    (meets_held (rw c.level.ensures at c.hold.ensures)
    (meets_at (λ y. block (line_of (world_of (g.B.Below.at c.args.below).refers) y (scope_of c.args.scope)) done)
    (sym (function_name
    (g.B.Below.at c.args.below).refers c.args.node.now c.args.name.now c.args.types.now c.requires.is))
    (meets_part c.name.ensures meets_done))
    c.close.ensures meets_done) meets_done

pub returns-else-is_on : goal.returns-else-is_on
returns-else-is_on g c =
    meets_choose_off (λ s. is_on params s.flags) _ (λ _. sym c.is_on.ensures ∙ c.if-is_on.false)
    (meets_at (λ y. block (line_of (world_of (g.B.Below.at c.args.below).refers) y (scope_of c.args.scope)) done)
    (sym (function_name
    (g.B.Below.at c.args.below).refers c.args.node.now c.args.name.now c.args.types.now c.requires.is))
    (meets_part c.name-else-is_on.ensures meets_done))
    meets_done
