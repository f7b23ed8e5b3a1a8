-- Lists of entities that hold with each entity all that it mentions.
use Rattle.std.specs.Prelude.{◌≡◌, Bool, true, List, [], ◌∷◌, is_some}
use Rattle.cpp_mangle.specs.Declarations.{PlainType, place, mentioned}

abbrev pub has : PlainType → List PlainType → Bool
has x xs = is_some (place x xs)

-- all of these are there
abbrev pub AllIn : List PlainType → List PlainType → Type 0
AllIn [] xs = Unit {0}
AllIn (y ∷ ys) xs = (has y xs ≡ true) × AllIn ys xs

abbrev pub Closed : List PlainType → Type 0
Closed xs = (x : PlainType) → has x xs ≡ true → AllIn (mentioned x) xs
