use Rattle.std.proofs.Common.{refl}
use Rattle.demangle_printing.specs.Print.{body}
use Rattle.demangle_printing.specs.Lines.{line_steps}
use Rattle.demangle_meets.proofs.Acts.{meets_ask, meets_block, meets_done}
use Rattle.demangle_meets.proofs.Around.{meets_held}
use Rattle.demangle_meets.proofs.Parts.{meets_part, prints_deep, prints_node}
use Rattle.demangle_print_types.proofs.functions.function_type.Goals as goal

pub returns-in_default : goal.returns-in_default
returns-in_default g c = prints_deep refl c.in_default.ensures

pub returns : goal.returns
unfolding body line_steps
returns g c =
    prints_node refl c.in-Some.ensures.0
    (meets_held (rw c.level.ensures at c.hold.ensures) (meets_part c.bare_function_type.ensures meets_done)
    c.close.ensures (meets_block (meets_ask (λ _. refl) c.exception.ensures meets_done) meets_done))
