-- Pieces of lines that one function does.
use Rattle.std.specs.Prelude.{ℕ, List, Some, codes, map}
use Rattle.demangle_printing.specs.Act.{Act, block, done, named, text}
use Rattle.demangle_printing.specs.Reader.{blocks, input_text, run}
use Rattle.demangle_printing.specs.Scope.{Scope}
use Rattle.demangle_printing.specs.Step.{Step}
use Rattle.demangle_printing.specs.World.{World}

-- a name, which is kept as the last source name
abbrev pub name_act : {X : Type 0} → List ℕ → Act X
name_act bs = named bs (block (input_text bs) done)

-- the same behind a space and a dot
abbrev pub suffix_act : {X : Type 0} → List ℕ → Act X
suffix_act bs = named bs (text (codes " .") (block (input_text bs) done))

-- steps for each tree of a list
abbrev pub each_of : {X : Type 0} → World X → Step → List X → Scope X → Act X
each_of w s xs sc = blocks (map (λ y. run w (Some y) sc s) xs)
