-- Lines that stay as they are, since none begins with the byte that linker names begin with.
use Rattle.std.specs.Prelude.{ℕ, Bool, true, not, ◌&&◌, ◌==◌, List, [], ◌∷◌}

-- whether what comes behind these bytes begins a line; `begin` is whether they do
unfoldable pub begins_line : (begin : Bool) → List ℕ → Bool
begins_line begin [] = begin
begins_line begin (b ∷ bs) = begins_line (b == 10) bs

-- whether no line of these bytes begins with `_` (95); `begin` is whether they begin one
unfoldable pub stays : (begin : Bool) → List ℕ → Bool
stays begin [] = true
stays begin (b ∷ bs) = not (begin && (b == 95)) && stays (b == 10) bs

-- the same of the bytes behind the first
abbrev pub stays_behind : List ℕ → Bool
stays_behind [] = true
stays_behind (b ∷ bs) = stays (b == 10) bs
