use Rattle.std.proofs.Common.{◌≡◌, ◌-◌, ◌^◌, ℕ, [], ◌∷◌}
use Rattle.demangle_core.specs.Core.{Core}
use Rattle.demangle_grammar.specs.Rule.{Row}
use Rattle.demangle_grammar.specs.Code.{cread, here, turns_of}
use Rattle.demangle_cells.specs.View.{Grown, Holds, table, view}
use Rattle.demangle_cells.specs.Reads.{spot_at}
use Rattle.demangle_read_nested.proofs.prefixes.prefix_turns.Given as goal

-- the turns from the beginning stand on the left, so that a goal on them is rewritten to what is left of them
abbrev pub invariant-loop-next : goal.invariant-loop-next
invariant-loop-next g l = record {
  grown : Grown (view l.fn.arena) (view l.arena);
  reads : (F : ℕ → Core) → Holds F (view l.arena)
      → turns_of (cread l.depth.levels) l.depth.conversion Row.prefix_turn
      (here (spot_at l.fn.text l.fn.at) (table F (view l.fn.arena))) (F l.fn.first ∷ [])
      ≡ turns_of (cread l.depth.levels) l.depth.conversion Row.prefix_turn
      (here (spot_at l.text l.at) (table F (view l.arena))) (F l.prefix ∷ []);
}

abbrev pub decreases-loop-next : goal.decreases-loop-next
decreases-loop-next g l = 2 ^ 32 - l.at
