-- What is on top of the items.
use Rattle.std.specs.Prelude.{Bool, false, List, [], ◌∷◌}
use Rattle.demangle_core.specs.Core.{Core}
use Rattle.demangle_printing.specs.World.{World}
use Rattle.demangle_printing.specs.State.{Held}
use Rattle.demangle_printing.specs.Rules.{is_rvalue, tag}

-- an rvalue reference
abbrev pub is_rvalue_top : World Core → List (Held Core) → Bool
is_rvalue_top w [] = false
is_rvalue_top w (h ∷ hs) = is_rvalue w (tag w h.item)
