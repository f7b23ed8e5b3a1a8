-- What a call owes of an answer: its code, the length that it tells, and the room behind the call.
use Rattle.std.specs.Prelude.{◌≡◌, ℕ, ◌≤◌, ◌<◌, nat_le, if◌then◌else◌, List, [], ◌∷◌, ◌++◌, length, drop}
use Rattle.std.specs.Prelude.{Result, Ok, Err}
use Rattle.demangler.specs.declared.fault.SymbolFault.{SymbolFault}
use Rattle.cpp_demangle_c.specs.Codes.{code_of}

-- a zero in the place of the first byte, where there is one
abbrev pub ended : List ℕ → List ℕ
ended [] = []
ended (byte ∷ rest) = 0 ∷ rest

-- the text at the front, a zero behind it, and the rest as it was
abbrev pub put : (text room : List ℕ) → List ℕ
put text room = text ++ ended (drop (length text) room)

abbrev pub code_due : Result (List ℕ) SymbolFault → (room : ℕ) → ℕ
code_due (Ok text) room = if nat_le (length text) room then 0 else 12
code_due (Err f) room = code_of f

abbrev pub room_due : Result (List ℕ) SymbolFault → (room : List ℕ) → List ℕ
room_due (Ok text) room = if nat_le (length text) (length room) then put text room else room
room_due (Err f) room = room

-- The text stands in the room, and its length was told.
abbrev pub HoldsText : Result (List ℕ) SymbolFault → (text_len : ℕ) → (old new : List ℕ) → Type 0
HoldsText (Ok text) n old new = (length text ≤ length old) × (n ≡ length text) × (new ≡ put text old)
HoldsText (Err f) n old new = ⊥

-- There is a text, for which the room is too short, and its length was told.
abbrev pub LacksRoom : Result (List ℕ) SymbolFault → (text_len : ℕ) → (room : List ℕ) → Type 0
LacksRoom (Ok text) n room = (length room < length text) × (n ≡ length text)
LacksRoom (Err f) n room = ⊥
