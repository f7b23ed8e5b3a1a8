-- Laws on reads.
use Rattle.std.proofs.Common.{ℕ, ◌<◌, List, ◌++◌, length, Result, Ok, Err}
use Rattle.std.specs.Prelude.{Option}
use Rattle.std.proofs.lemmas.List.{take-append-le}
use Rattle.std.specs.Io.{ReadsAtMost}
use Rattle.std.specs.Io.KnownBytes.{ReadConsumes}

-- a read to the front of a longer buffer, which has room where the buffer has
pub read-longer : {E : Type 0} → (a b : Option (List ℕ)) (r : Result ℕ E) (buf rest : List ℕ) → ReadsAtMost r buf
    → (0 < length (buf ++ rest) → 0 < length buf) → ReadConsumes a b r buf → ReadConsumes a b r (buf ++ rest)
read-longer a b (Ok n) buf rest within some p =
    (rw (take-append-le n buf rest within.0) p.0, λ none room. p.1 none (some room))
read-longer a b (Err e) buf rest within some p = p
