-- What the lines of template parameters and arguments do, part by part.
use Rattle.std.specs.Prelude.{ℕ, ◌+ℤ◌, pos, codes}
use Rattle.std.specs.Fmt.{signed_decimal}
use Rattle.demangle_core.specs.Core.{Core}
use Rattle.demangle_printing.specs.World.{World}
use Rattle.demangle_printing.specs.State.{is_on, is_byte, lambda}
use Rattle.demangle_printing.specs.Scope.{Scope, scope_argument}
use Rattle.demangle_printing.specs.Act.{Act, done, text, block, ask}
use Rattle.demangle_printing.specs.Reader.{chosen, argument_act}

-- the template argument of a number
abbrev pub argument_of : World Core → Scope Core → ℕ → Act Core
argument_of w sc k = argument_act w (scope_argument w sc k) sc

-- what a template parameter stands for: in the signature of a closure it is counted
abbrev pub stands_for : World Core → Scope Core → ℕ → Act Core
stands_for w sc k =
    ask
    (λ s. chosen (is_on lambda s.flags) (text (codes "auto:") (text (signed_decimal (pos k +ℤ pos 1)) done))
    (block (argument_of w sc k) done))
    done

-- a space where the last byte is this one, and then another act
abbrev pub apart_from : ℕ → Act Core → Act Core
apart_from b k = ask (λ s. chosen (is_byte b s.last) (text (codes " ") done) done) k
