use Rattle.demangle_print_names.proofs.Functions.{no_arguments, not_shown, shown}
use Rattle.demangle_print_names.proofs.encodings.has_result.Goals as goal

pub returns-in-None : goal.returns-in-None
returns-in-None c = no_arguments _ _ c.in-None.ensures

pub returns-then-are_shown : goal.returns-then-are_shown
returns-then-are_shown c =
    shown _ _ _ _ _ c.in-Some.ensures c.if-are_shown.true c.is_ctor_dtor_conversion.ensures

pub returns-else-are_shown : goal.returns-else-are_shown
returns-else-are_shown c = not_shown _ _ _ _ c.in-Some.ensures c.if-are_shown.false
