-- What is done for the type of an expression.
use Rattle.std.specs.Prelude.{codes, Some}
use Rattle.demangle_core.specs.Core.{Core}
use Rattle.demangle_printing.specs.World.{World}
use Rattle.demangle_printing.specs.State as kind
use Rattle.demangle_printing.specs.Scope.{Scope}
use Rattle.demangle_printing.specs.Act.{Act, done, text, block, event}
use Rattle.demangle_printing.specs.Rules.{line_of}

abbrev pub type_of : World Core → Core → Scope Core → Act Core
type_of w x sc =
    event kind.decltype (text (codes "decltype (") (block (line_of w (Some x) sc) (text (codes ")") done))) done
