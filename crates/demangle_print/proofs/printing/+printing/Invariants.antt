use Rattle.demangle_print_below.specs.PlaceOf.{place_of}
use Rattle.demangle_print.proofs.printing.+printing.Given as goal

abbrev pub decreases-print_named : goal.decreases-print_named
decreases-print_named g l = (place_of l.depth).left

abbrev pub decreases-print_part : goal.decreases-print_part
decreases-print_part g l = (place_of l.depth).left
