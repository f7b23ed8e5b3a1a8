-- A place in the input: its index there, and the bytes from there on.
use Rattle.std.specs.Prelude.{◌≡◌, ℕ, ◌+◌, Bool, ◌&&◌, ◌==◌, IsTrue, ◌↔◌, List, [], ◌∷◌, take, drop, bytes_eq, Option}
use Rattle.std.specs.Prelude.{Some, None}
use Rattle.demangle_text.specs.declared.index_str.IndexStr.{IndexStr}

pub record Spot : Type 0 where
  pub index : ℕ
  pub left : List ℕ

-- what contracts see of an `IndexStr`
abbrev pub spot : IndexStr → Spot
spot s = record { index = s.index; left = s.string.now }

-- what `==` answers: the index and the bytes are the same
abbrev pub same_spot : Spot → Spot → Bool
same_spot p q = (p.index == q.index) && bytes_eq p.left q.left

-- n bytes on
abbrev pub skip : ℕ → Spot → Spot
skip n s = record { index = s.index + n; left = drop n s.left }

-- the same place with its first n bytes alone
abbrev pub front : ℕ → Spot → Spot
front n s = record { index = s.index; left = take n s.left }

-- both parts of a place that is cut behind n bytes
pub record IsSplit (n : ℕ) (whole first second : Spot) : Type 0 where
  pub front_index : first.index ≡ whole.index
  pub front : first.left ≡ take n whole.left
  pub back_index : second.index ≡ whole.index + n
  pub back : second.left ≡ drop n whole.left

abbrev pub first_byte : List ℕ → Option ℕ
first_byte [] = None
first_byte (b ∷ bs) = Some b

abbrev pub second_byte : List ℕ → Option ℕ
second_byte [] = None
second_byte (b ∷ bs) = first_byte bs

-- `==` holds just where the index and the bytes are equal.
abbrev pub EqualSpots : Type 0
EqualSpots = (p q : Spot) → IsTrue (same_spot p q) ↔ ((p.index ≡ q.index) × (p.left ≡ q.left))
