-- What the code tells apart of items, in the words of the definitions.
use Rattle.std.specs.Prelude.{ℕ, Bool, ◌==◌, ◌||◌, ◌&&◌, nat_le, if◌then◌else◌}
use Rattle.demangle_printing.specs.Arrays.{Turn}
use Rattle.demangle_printing.specs.Arrays as turn
use Rattle.demangle_printing.specs.Parameters.{Wanted}
use Rattle.demangle_printing.specs.Parameters as wanted
use Rattle.demangle_lines_inner.specs.declared.kinds.ArrayTurn.{ArrayTurn}
use Rattle.demangle_lines_inner.specs.declared.kinds.ArrayTurn.TheVariants as of_turn
use Rattle.demangle_lines_inner.specs.declared.parentheses.Parentheses.{Parentheses}
use Rattle.demangle_lines_inner.specs.declared.parentheses.Parentheses.TheVariants as of_parentheses

-- ---- arrays
abbrev pub turn_of : ArrayTurn → Turn
turn_of of_turn.Array = turn.array
turn_of of_turn.Elements = turn.elements
turn_of of_turn.Qualified = turn.qualified
turn_of of_turn.Other = turn.other

-- ---- parentheses around what stands between the result and the parameters
abbrev pub wanted_of : Parentheses → Wanted
wanted_of of_parentheses.Needless = wanted.none
wanted_of of_parentheses.Plain = wanted.some
wanted_of of_parentheses.Spaced = wanted.spaced

-- by the number of the tag
abbrev pub number_wants : ℕ → Wanted
number_wants n = if (n == 53) || (n == 195) then wanted.spaced else
    (if (n == 197) || ((n == 198) || (n == 199)) then wanted.some else wanted.none)

-- ---- handles that hold their trees in place, and components
abbrev pub number_holds : ℕ → Bool
number_holds n = (n == 3) || ((n == 25) || ((n == 26) || (nat_le 205 n && nat_le n 210)))

-- what an item is to an array, where it is no qualified type
abbrev pub number_turn : ℕ → Turn
number_turn n = if n == 175 then turn.array else
    (if n == 176 then turn.array else (if n == 177 then turn.array else turn.other))
