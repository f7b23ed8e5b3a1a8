-- What the pieces of literals do, by the bytes of the literal.
use Rattle.std.specs.Prelude.{ℕ, Bool, List, [], ◌∷◌, Some}
use Rattle.demangle_core.specs.Core.{Core}
use Rattle.demangle_printing.specs.World.{World, find, see}
use Rattle.demangle_printing.specs.State.{is_on, littypes}
use Rattle.demangle_printing.specs.Scope.{Scope}
use Rattle.demangle_printing.specs.Act.{Act, done, block, ask}
use Rattle.demangle_printing.specs.Reader.{chosen, input_text}
use Rattle.demangle_printing.specs.Rules.{line_of, quoted, is_seen_word}
use Rattle.demangle_printing.specs.Texts.{is_negative, without_sign}

-- whether the type of a literal is just the builtin type of this number
abbrev pub is_just : World Core → Core → ℕ → Bool
is_just w x k = is_seen_word 1 k (see w (find w (Some x) (0 ∷ 0 ∷ [])))

-- the sign
abbrev pub minus : List ℕ → Act Core
minus bs = chosen (is_negative bs) (quoted "-" done) done

-- the sign, and a bracket
abbrev pub opening : List ℕ → Act Core
opening bs = chosen (is_negative bs) (quoted "-[" done) (quoted "[" done)

-- a number
abbrev pub digits_of : List ℕ → Act Core
digits_of bs = ask (λ s. minus bs) (block (input_text (without_sign bs)) done)

-- the bytes of a number with a fraction
abbrev pub real_of : List ℕ → Act Core
real_of bs = ask (λ s. opening bs) (block (input_text (without_sign bs)) (quoted "]" done))

-- the type, where types are shown
abbrev pub type_before : World Core → Scope Core → Core → Act Core
type_before w sc x =
    ask (λ s. chosen (is_on littypes s.flags) (quoted "(" (block (line_of w (Some x) sc) (quoted ")" done))) done) done
