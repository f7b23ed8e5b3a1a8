-- What the pieces of names that are not resolved do.
use Rattle.std.specs.Prelude.{List, Some}
use Rattle.demangle_core.specs.Core.{Core}
use Rattle.demangle_printing.specs.World.{World}
use Rattle.demangle_printing.specs.Scope.{Scope, with_args}
use Rattle.demangle_printing.specs.Act.{Act, done, block}
use Rattle.demangle_printing.specs.Step.{Step}
use Rattle.demangle_printing.specs.Items.{◌·◌, t, itself}
use Rattle.demangle_printing.specs.Rules.{line_of}
use Rattle.demangle_print_parts.specs.Pieces.{each_of}

-- one level, and `::` behind it
abbrev pub one_level : Step
one_level = (itself · t "::") Step.done

module _ (w : World Core) (sc : Scope Core) where
  abbrev pub levels_of : List Core → Act Core
  levels_of xs = each_of w one_level xs sc

  -- a template parameter and its arguments, with these in scope
  abbrev pub in_its_scope : (param args : Core) → Act Core
  in_its_scope p args =
      block (line_of w (Some p) (with_args (Some args) sc))
      (block (line_of w (Some args) (with_args (Some args) sc)) done)
