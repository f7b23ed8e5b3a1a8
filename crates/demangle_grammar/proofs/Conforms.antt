-- What is compared of a reading of given bytes.
use Rattle.std.specs.Prelude.{◌≡◌, ℕ, ◌&&◌, ◌||◌, nat_le, Bool, false, zero, suc, List, [], ◌∷◌}
use Rattle.std.proofs.Common.{ap, ◌∙◌, arith}
use Rattle.demangle_core.specs.Table.{Entry}
use Rattle.demangle_text.specs.Kind.{Cause}
use Rattle.demangle_core.specs.Core.{Core, Which}
use Rattle.demangle_grammar.specs.Rule.{Row, Rule}
use Rattle.demangle_grammar.specs.Items.{Item}
use Rattle.demangle_grammar.specs.Tree.{Tree, core, nil}
use Rattle.demangle_grammar.specs.Reading.{Answer, Yes, No, Deep, Measured, measure_from, enough, read_all}
use Rattle.demangle_grammar.specs.First.{takes_row, begins_by, first_in, first, idle_by, idle_in, idle}
use Rattle.demangle_grammar.specs.Laws.{from, reach}
use Rattle.demangle_grammar.proofs.Limits.{whole}

-- the index behind it, the tree, and the entries in the order of insertion; or the cause of the failure
pub data Outcome : Type 0 where
  Read : (stop : ℕ) → Core → List Entry → Outcome
  Refused : Cause → Outcome
  TooDeep : Outcome

abbrev pub outcome : Answer Tree → Outcome
outcome (Yes s a) = Read s.at (core a) s.entries
outcome (No h c) = Refused c
outcome Deep = TooDeep

abbrev pub entry : Which → Core → Entry
entry w c = record { which = w; tree = c }

-- without a limit, with the conversion flag, from the first byte, with no entries
pub record Reads (row : Row) (conv : Bool) (bytes : List ℕ) (o : Outcome) (n : ℕ) : Type 0 where
  pub answer : outcome (read_all row conv (from bytes)) ≡ o
  pub deepest : reach 0 row conv (from bytes) ≡ n

abbrev pub told : Measured → Outcome × ℕ
told m = (outcome m.answer, m.levels)

-- both are computed in one go
pub by_measure : {row : Row} {conv : Bool} {bytes : List ℕ} {o : Outcome} {n : ℕ} → told (measure_from (enough bytes) row conv (from bytes) nil) ≡ (o, n) → Reads row conv bytes o n
by_measure {row} {conv} {bytes} {o} {n} e =
    record {
      answer = ap outcome (whole row conv (from bytes)).1 ∙ ap (λ p. p.0) e;
      deepest = let h : (measure_from (enough bytes) row conv (from bytes) nil).levels ≡ n = ap (λ p. p.1) e in omega (arith, h);
    }

-- ---- the first bytes of a row
abbrev pub in_ranges : List (ℕ × ℕ) → ℕ → Bool
in_ranges [] b = false
in_ranges (r ∷ rs) b = (nat_le r.0 b && nat_le b r.1) || in_ranges rs b

-- a test at each of the first n bytes
abbrev pub bytes_of : ℕ → (ℕ → Bool) → List Bool
bytes_of zero f = []
bytes_of (suc n) f = f n ∷ bytes_of n f

-- whether the row takes a byte, with which it can begin, and how deep it goes where the next byte is another
pub record Begins (row : Row) (t : Bool) (ranges : List (ℕ × ℕ)) (n : ℕ) : Type 0 where
  pub takes : takes_row row ≡ t
  pub first : bytes_of 256 (first row) ≡ bytes_of 256 (in_ranges ranges)
  pub idle : idle row ≡ n

-- the same of a part of a row, which counts no level of its own
pub record PartBegins (part : Item) (ranges : List (ℕ × ℕ)) (n : ℕ) : Type 0 where
  pub first : bytes_of 256 (λ b. begins_by takes_row (first_in 10) b (part Rule.done)) ≡ bytes_of 256 (in_ranges ranges)
  pub idle : idle_by takes_row (idle_in 10) (part Rule.done) ≡ n
