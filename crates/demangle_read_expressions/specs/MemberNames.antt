-- What the name of a member is at its root.
use Rattle.std.specs.Prelude.{Bool, true, false}
use Rattle.demangle_core.specs.Core.{Core, node, end}

-- one node alone
abbrev pub is_node : Core → Bool
is_node (node t c end) = true
is_node _ = false
