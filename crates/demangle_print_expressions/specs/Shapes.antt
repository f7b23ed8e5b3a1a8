-- What lines of one shape do, whatever their words are.
use Rattle.std.specs.Prelude.{ℕ, List, Some}
use Rattle.demangle_core.specs.Core.{Core}
use Rattle.demangle_printing.specs.World.{World, listed}
use Rattle.demangle_printing.specs.Scope.{Scope}
use Rattle.demangle_printing.specs.Act.{Act, done, text, block}
use Rattle.demangle_printing.specs.Reader.{operand_in, is_bare}
use Rattle.demangle_printing.specs.Rules.{line_of, lines_of, quoted}

module _ (w : World Core) (sc : Scope Core) where
  -- the line of a part, and what comes behind it
  abbrev pub part : Core → Act Core → Act Core
  part x k = block (line_of w (Some x) sc) k

  -- the same of an operand, in parentheses where it is no parameter and no name
  abbrev pub operand_act : Core → Act Core
  operand_act x = operand_in (is_bare w (Some x)) (line_of w (Some x) sc)

  abbrev pub operand : Core → Act Core → Act Core
  operand x k = block (operand_act x) k

  -- a word, and a part behind it
  abbrev pub led : List ℕ → Core → Act Core
  led word x = text word (part x done)

  -- the same, closed by a parenthesis
  abbrev pub enclosed : List ℕ → Core → Act Core
  enclosed word x = text word (part x (quoted ")" done))

  -- the word of a cast, its type and its operand
  abbrev pub cast : List ℕ → (type value : Core) → Act Core
  cast word a b = text word (part a (quoted ">(" (part b (quoted ")" done))))

  -- a word, the arguments of a placement, the type and the initializer
  abbrev pub creation : List ℕ → (list type initializer : Core) → Act Core
  creation word xs a b =
      text word (block (lines_of w (listed w (Some xs)) sc) (quoted ") " (part a (part b done))))

  -- an operator and dots between two operands
  abbrev pub binary_fold : (operator left right : Core) → Act Core
  binary_fold o a b =
      quoted "(" (operand a (part o (quoted "..." (part o (operand b (quoted ")" done))))))
