-- What trees are at their root.
use Rattle.std.specs.Prelude.{Bool, true, false}
use Rattle.demangle_core.specs.Core.{Core, node, chosen, end}

-- one node alone
abbrev pub is_node : Core → Bool
is_node (node t c end) = true
is_node _ = false

-- one word alone
abbrev pub is_word : Core → Bool
is_word (chosen t k end) = true
is_word _ = false
