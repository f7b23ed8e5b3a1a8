-- What is gathered behind a name whose text was asked for.
use Rattle.std.specs.Prelude.{◌≡◌, ◌≢◌, ℕ, List, ◌++◌, Result, Ok, Err}
use Rattle.demangler.specs.declared.fault.SymbolFault.{SymbolFault}
use Rattle.demangler.specs.declared.fault.SymbolFault.TheVariants as fault

-- The text of the answer stands behind what was gathered before. Or nothing does, and this is the answer's fault,
-- unless there was no memory.
abbrev pub IsGathered : Result (List ℕ) SymbolFault → (old new : List ℕ) → Result (Unit {0}) SymbolFault → Type 0
IsGathered answer old new (Ok v) = (text : List ℕ) × (answer ≡ Ok text) × (new ≡ old ++ text)
IsGathered answer old new (Err f) = (new ≡ old) × (f ≢ fault.OutOfMemory → answer ≡ Err f)
