-- Which failures an alternative hides.
use Rattle.std.specs.Prelude.{◌≡◌, true, false, Result, Ok, Err, Option, Some, None}
use Rattle.demangle_text.specs.declared.error.Error.{Error}
use Rattle.demangle_text.specs.Kind.{kind, ends}

-- an answer that an alternative hides: the bytes couldn't be read
abbrev pub IsHidden : {X : Type 0} → Result X Error → Type 0
IsHidden (Ok x) = ⊥
IsHidden (Err e) = ends (kind e) ≡ false

-- nothing in its place; what was read, and what ends the whole reading, go on
abbrev pub Hides : {X : Type 0} → Result X Error → Result (Option X) Error → Type 0
Hides answer (Ok None) = IsHidden answer
Hides answer (Ok (Some x)) = answer ≡ Ok x
Hides answer (Err e) = (answer ≡ Err e) × (ends (kind e) ≡ true)
