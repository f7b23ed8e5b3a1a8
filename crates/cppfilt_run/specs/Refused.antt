-- What bytes become that have no text.
use Rattle.std.specs.Prelude.{◌≡◌, ◌≢◌, ℕ, Bool, List}
use Rattle.demangler.specs.Answer.{fault_text}
use Rattle.demangler.specs.declared.fault.SymbolFault.{SymbolFault}
use Rattle.demangler.specs.declared.fault.SymbolFault.TheVariants as fault
use Rattle.cppfilt_lines.specs.Shown.{refused}

-- these bytes, unless there was no memory
abbrev pub IsRefused : (whole : List ℕ) → (why : Bool) → (bytes : List ℕ) → SymbolFault → Type 0
IsRefused whole why bytes f = f ≢ fault.OutOfMemory → whole ≡ refused why bytes (fault_text f)
