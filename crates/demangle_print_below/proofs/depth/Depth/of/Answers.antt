use Rattle.std.proofs.Common.{refl}
use Rattle.demangle_context.specs.PageOf.{page}
use Rattle.demangle_print_below.specs.PlaceOf.{place_of}
use Rattle.demangle_print_below.proofs.depth.Depth.of.Goals as goal

pub returns : goal.returns
unfolding place_of page
returns g c =
    rw (c.subs.ensures, c.input.ensures, c.recursion_level.ensures.value, c.recursion_limit.ensures) refl
