use Rattle.std.proofs.Common.{ℕ, ap}
use Rattle.demangle_core.specs.Core.{Core, node, mark}
use Rattle.demangle_nodes.proofs.laws.trees_keep_places.Goals as goal

abbrev place_of : Core → ℕ
place_of (node t (mark i x) n) = i
place_of _ = 0

pub returns : goal.returns
returns c = λ a b e. ap place_of e
