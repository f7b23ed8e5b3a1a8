use Rattle.std.proofs.Common.{◌≡◌, length}
use Rattle.demangle_text.specs.Spot.{spot}
use Rattle.demangle_leaf_rows.proofs.Tags.{TagsSoFar}
use Rattle.demangle_leaf_rows.proofs.lists.abi_tags.Given as goal

abbrev pub invariant-loop-tag : goal.invariant-loop-tag
invariant-loop-tag l = TagsSoFar l.depth.levels l.depth.conversion (spot l.fn.input) (spot l.rest) l.tags.items

abbrev pub decreases-loop-tag : goal.decreases-loop-tag
decreases-loop-tag l = length l.rest.string.now
