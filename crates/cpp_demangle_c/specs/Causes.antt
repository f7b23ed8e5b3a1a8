-- What a code says, and what the call that tells it owes.
use Rattle.std.specs.Prelude.{ℕ, List, [], ◌∷◌, ◌++◌, length, map, slice_get, Option, Some, None, Ok, codes}
use Rattle.demangler.specs.Answer.{fault_text}
use Rattle.cpp_demangle_c.specs.Codes.{causes}
use Rattle.cpp_demangle_c.specs.Told.{code_due, room_due}

-- in the order of the codes, from 0
abbrev pub texts : List (List ℕ)
texts =
    codes "done"
    ∷ map fault_text causes
    ++ codes "text is longer than the buffer"
    ∷ codes "option is out of its range"
    ∷ codes "length is out of its range"
    ∷ codes "unknown code"
    ∷ []

abbrev pub cause_text : ℕ → Option (List ℕ)
cause_text code = slice_get texts code

abbrev pub cause_code : Option (List ℕ) → (room : ℕ) → ℕ
cause_code (Some text) room = code_due (Ok text) room
cause_code None room = 15

abbrev pub cause_room : Option (List ℕ) → (room : List ℕ) → List ℕ
cause_room (Some text) room = room_due (Ok text) room
cause_room None room = room

abbrev pub cause_len : Option (List ℕ) → ℕ
cause_len (Some text) = length text
cause_len None = 0
