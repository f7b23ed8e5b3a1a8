-- The turns of a prefix, step by step, by the places of the text.
use Rattle.std.proofs.Common.{◌≡◌, ℕ, ◌<◌, ◌≤◌, Bool, false, List, [], ◌∷◌, length, drop, arith, ◌==◌}
use Rattle.demangle_core.specs.Core.{Core}
use Rattle.demangle_core.specs.Table.{Table}
use Rattle.demangle_text.specs.Kind.{Kind}
use Rattle.demangle_grammar.specs.Rule.{Row}
use Rattle.demangle_grammar.specs.Code.{Here, here, Found, Refused, turns_of, cread}
use Rattle.demangle_grammar.proofs.CodeLaws as laws
use Rattle.demangle_forms.proofs.Turns.{turns_again, turns_stop, turns_fail}
use Rattle.demangle_cells.specs.Reads.{spot_at}
use Rattle.demangle_cells.specs.declared.text.Text.{Text}

not_equal : (m n : ℕ) → m < n → (m == n) ≡ false
not_equal m n h = grind (arith, h)

-- a turn that goes on behind where it began
pub turn_on : (f : ℕ) (c : Bool) (text : Text) (i j : ℕ) (e g : Table) (acc : List Core) (t : Core)
    → cread f Row.prefix_turn c (here (spot_at text i) e) acc ≡ Found t (here (spot_at text j) g) → i < j
    → turns_of (cread f) c Row.prefix_turn (here (spot_at text i) e) acc
    ≡ turns_of (cread f) c Row.prefix_turn (here (spot_at text j) g) (t ∷ [])
turn_on f c text i j e g acc t h l =
    let k = laws.index_kept f Row.prefix_turn c (here (spot_at text i) e) (here (spot_at text j) g) acc t h in
    turns_again f c (here (spot_at text i) e) (here (spot_at text j) g) acc t h
    (not_equal (length (drop j text.bytes.now)) (length (drop i text.bytes.now)) (omega (arith, k, l)))

-- one that doesn't is the last
pub turn_last : (f : ℕ) (c : Bool) (text : Text) (i j : ℕ) (e g : Table) (acc : List Core) (t : Core)
    → cread f Row.prefix_turn c (here (spot_at text i) e) acc ≡ Found t (here (spot_at text j) g) → j ≤ i
    → turns_of (cread f) c Row.prefix_turn (here (spot_at text i) e) acc ≡ Found t (here (spot_at text j) g)
turn_last f c text i j e g acc t h l =
    let k = laws.index_kept f Row.prefix_turn c (here (spot_at text i) e) (here (spot_at text j) g) acc t h in
    let n = laws.no_longer f Row.prefix_turn c (here (spot_at text i) e) (here (spot_at text j) g) acc t h in
    turns_stop (cread f) c Row.prefix_turn (here (spot_at text i) e) (here (spot_at text j) g) acc t h
    (omega (arith, k, n, l))

pub turn_fails : (f : ℕ) (c : Bool) (s : Here) (acc : List Core) (k : Kind)
    → cread f Row.prefix_turn c s acc ≡ Refused k → turns_of (cread f) c Row.prefix_turn s acc ≡ Refused k
turn_fails f c s acc k h = turns_fail (cread f) c Row.prefix_turn s acc k h

pub ruleset turning = (turn_on, turn_last, turn_fails)
