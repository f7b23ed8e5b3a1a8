-- Pieces of lines that code prints by functions of their own.
use Rattle.std.specs.Prelude.{List, map, Some}
use Rattle.demangle_core.specs.Core.{Core, Tag, node, end}
use Rattle.demangle_printing.specs.World.{World, see}
use Rattle.demangle_printing.specs.Scope.{Scope}
use Rattle.demangle_printing.specs.Act.{Act, done}
use Rattle.demangle_printing.specs.Step.{Step}
use Rattle.demangle_printing.specs.Rules.{tag_seen}
use Rattle.demangle_printing.specs.Reader.{blocks, chosen, is_present, run}
use Rattle.demangle_printing.specs.Lines.Names.{conversion}

-- These trees as the parts of a node, over which a piece of a line may be read.
abbrev pub row : Core → Core
row parts = node Tag.Several parts end

-- an act, where an optional part is there
abbrev pub when_there : World Core → Core → Act Core → Act Core
when_there w x a = chosen (is_present (tag_seen (see w (Some x)))) a done

-- a conversion to a type
abbrev pub conversion_of : World Core → Core → Scope Core → Act Core
conversion_of w type sc = run w (Some (row type)) sc (conversion Step.done)

-- these steps for each tree of a list
abbrev pub each_of : World Core → Step → List Core → Scope Core → Act Core
each_of w a xs sc = blocks (map (λ y. run w (Some y) sc a) xs)
