-- What a text is behind the call that puts a name's text in its place.
use Rattle.std.specs.Prelude.{◌≡◌, ◌≢◌, ℕ, List, [], Result, Ok, Err}
use Rattle.demangler.specs.declared.fault.SymbolFault.{SymbolFault}
use Rattle.demangler.specs.declared.fault.SymbolFault.TheVariants as fault

-- It is the text of the answer. Or it is empty, and this is the answer's fault, unless there was no memory.
abbrev pub IsFilled : Result (List ℕ) SymbolFault → (text : List ℕ) → Result (Unit {0}) SymbolFault → Type 0
IsFilled answer text (Ok v) = answer ≡ Ok text
IsFilled answer text (Err f) = (text ≡ []) × (f ≢ fault.OutOfMemory → answer ≡ Err f)
