-- Pieces of lines that code prints by functions of their own.
use Rattle.std.specs.Prelude.{ℕ, ◌&&◌, List, Some, codes}
use Rattle.demangle_core.specs.Core.{Core}
use Rattle.demangle_printing.specs.World.{World, parts}
use Rattle.demangle_printing.specs.State.{is_on, params}
use Rattle.demangle_printing.specs.Scope.{Scope}
use Rattle.demangle_printing.specs.Act.{Act, done, text, block, ask, named}
use Rattle.demangle_printing.specs.Rules.{line_of}
use Rattle.demangle_printing.specs.Parameters.{any_set}
use Rattle.demangle_printing.specs.Reader.{chosen, input_text}
use Rattle.demangle_printing.specs.Step.{Step}
use Rattle.demangle_printing.specs.Lines.Functions.{result}

-- what stands in the events of a node
abbrev pub in_event : Step → Step
in_event (Step.event i a k) = a
in_event _ = Step.done

-- what stands behind the fence of a prefix, as whatever it is told
abbrev pub in_fence : Step → Step
in_fence (Step.test c a b k) = in_fence a
in_fence (Step.set f v k) = in_fence k
in_fence (Step.event i a k) = in_fence a
in_fence (Step.fence a k) = a
in_fence _ = Step.done

-- the result of a function
abbrev pub result_shown : Step
result_shown = result

-- the qualifiers of a member function, where parameters are shown, and then another act
abbrev pub qualifiers_act : World Core → Core → Scope Core → Act Core → Act Core
qualifiers_act w x sc k =
    ask (λ s. chosen (any_set w (parts w x) && is_on params s.flags) (block (line_of w (Some x) sc) done) done) k

-- the word of a clone's suffix
abbrev pub word_act : List ℕ → Act Core
word_act bs = named bs (text (codes " .") (block (input_text bs) done))
