-- What stands between the elements of an array and its bounds, piece by piece.
use Rattle.std.specs.Prelude.{Bool}
use Rattle.demangle_core.specs.Core.{Core}
use Rattle.demangle_printing.specs.World.{World}
use Rattle.demangle_printing.specs.Scope.{Scope}
use Rattle.demangle_printing.specs.Act.{Act, space, pop}
use Rattle.demangle_printing.specs.Rules.{quoted, inner_of, emptied}
use Rattle.demangle_printing.specs.Arrays.{before_bounds}

module _ (w : World Core) where
  -- the items that wait, a closing parenthesis, and the space before the bounds
  abbrev pub others_before_bounds : Scope Core → Bool → Act Core
  others_before_bounds sc b = emptied w sc (quoted ")" (before_bounds w b))

  -- an item that is taken, and then the others in parentheses
  abbrev pub others_in_parentheses : Core → Scope Core → Bool → Act Core
  others_in_parentheses x sc b = space (pop (inner_of w x sc (space (quoted "(" (others_before_bounds sc b)))))

  -- all items in parentheses, this one on top
  abbrev pub all_in_parentheses : Core → Scope Core → Bool → Act Core
  all_in_parentheses x sc b = space (quoted "(" (pop (inner_of w x sc (others_before_bounds sc b))))
