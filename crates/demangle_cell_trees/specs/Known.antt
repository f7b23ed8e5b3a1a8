-- Names that are an identifier alone, from inside out.
use Rattle.std.specs.Prelude.{◌≡◌, ℕ, List}
use Rattle.demangle_core.specs.Core.{Core, end, place}
use Rattle.demangle_grammar.specs.Sound.{bytes_of}
use Rattle.demangle_lines.specs.Known.{identifier, source_name}

-- a tree that is made of a place in the input, and the bytes there
pub record IsOfPlace (of : ℕ → ℕ → Core) (input : List ℕ) (x : Core) (bytes : List ℕ) : Type 0 where
  pub start : ℕ
  pub stop : ℕ
  pub is : x ≡ of start stop
  pub here : bytes ≡ bytes_of input start stop

abbrev pub a_place : ℕ → ℕ → Core
a_place i j = place i j end

abbrev pub IsIdentifier : List ℕ → Core → List ℕ → Type 0
IsIdentifier = IsOfPlace identifier

abbrev pub IsSourceName : List ℕ → Core → List ℕ → Type 0
IsSourceName = IsOfPlace source_name
