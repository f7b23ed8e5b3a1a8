use Rattle.std.proofs.Common.{◌≡◌, ◌+◌, ◌-◌, ◌≤◌, length, drop}
use Rattle.demangle_text.specs.Characters.{identifier_len}
use Rattle.demangle_text.proofs.identifier.identifier_len.Given as goal

abbrev pub invariant-loop-count : goal.invariant-loop-count
invariant-loop-count l = (identifier_len l.bytes ≡ l.count + identifier_len (drop l.count l.bytes)) × (l.count ≤ length l.bytes)

abbrev pub decreases-loop-count : goal.decreases-loop-count
decreases-loop-count l = length l.bytes - l.count
