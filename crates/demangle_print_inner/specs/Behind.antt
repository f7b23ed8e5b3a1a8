-- What of items stands behind, piece by piece.
use Rattle.std.specs.Prelude.{pos, Bool, Some, codes}
use Rattle.std.specs.Fmt.{signed_decimal}
use Rattle.demangle_core.specs.Core.{Core}
use Rattle.demangle_nodes.specs.TreeNodes.{tree_of_expression}
use Rattle.demangle_entries.specs.declared.entries.ArrayType.{ArrayType}
use Rattle.demangle_entries.specs.declared.entries.ArrayType.TheVariants as of_array
use Rattle.demangle_printing.specs.World.{World, parts}
use Rattle.demangle_printing.specs.Scope.{Scope}
use Rattle.demangle_printing.specs.Act.{Act, done, text, space, block, pop}
use Rattle.demangle_printing.specs.Rules.{line_of, quoted, inner_of, emptied}
use Rattle.demangle_printing.specs.Parameters.{any_set}
use Rattle.demangle_printing.specs.Arrays.{before_bounds, around_array}
use Rattle.demangle_printing.specs.Reader.{chosen}

module _ (w : World Core) where
  -- the qualifiers of a function's type, where there are any
  abbrev pub qualifiers_behind : Core → Scope Core → Act Core
  qualifiers_behind x sc = chosen (any_set w (parts w x)) (block (line_of w (Some x) sc) done) done

  -- ---- arrays
  -- the items that wait, a closing parenthesis, and the space before the bounds
  abbrev pub others_before_bounds : Scope Core → Bool → Act Core
  others_before_bounds sc b = emptied w sc (quoted ")" (before_bounds w b))

  -- an item that is taken, and then the others in parentheses
  abbrev pub others_in_parentheses : Core → Scope Core → Bool → Act Core
  others_in_parentheses x sc b = space (pop (inner_of w x sc (space (quoted "(" (others_before_bounds sc b)))))

  -- all items in parentheses, this one on top
  abbrev pub all_in_parentheses : Core → Scope Core → Bool → Act Core
  all_in_parentheses x sc b = space (quoted "(" (pop (inner_of w x sc (others_before_bounds sc b))))

  -- the bound of an array, where it has one, and then another act
  abbrev pub bound_of : ArrayType → Scope Core → Act Core → Act Core
  bound_of (of_array.DimensionNumber n x) sc k = block (text (signed_decimal (pos n)) done) k
  bound_of (of_array.DimensionExpression e x) sc k = block (line_of w (Some (tree_of_expression e.value)) sc) k
  bound_of (of_array.NoDimension x) sc k = k

  -- what stands behind the elements of an array
  abbrev pub array_behind : ArrayType → Scope Core → Act Core
  array_behind x sc = around_array w sc (text (codes "[") (bound_of x sc (text (codes "]") done)))
