-- What the readers of a whole name answer, where F says what each index of the arena stands for.
use Rattle.std.specs.Prelude.{◌≡◌, ℕ, List, [], drop, Result, Ok, Err}
use Rattle.demangle_text.specs.Kind.{kind}
use Rattle.demangle_text.specs.declared.error.Error.{Error}
use Rattle.demangle_text.specs.declared.error.Error.TheVariants.{OutOfMemory}
use Rattle.demangle_core.specs.Core.{Core}
use Rattle.demangle_grammar.specs.Code.{Reply, Found, Refused, here}
use Rattle.demangle_cells.specs.Reads.{Answer}
use Rattle.demangle_cells.specs.View.{View, Holds, table}

-- the name's tree, its components and what is left behind it; or why there is none
abbrev pub IsFront : (ℕ → Core) → View → List ℕ → Reply → Answer → Type 0
IsFront F v bytes reply (Ok x) =
    reply ≡ Found (F x.id) (here (record { index = x.end; left = drop x.end bytes }) (table F v))
IsFront F v bytes reply (Err OutOfMemory) = Unit {0}
IsFront F v bytes reply (Err e) = reply ≡ Refused (kind e)

-- the name's tree and its components, with nothing left; or why there is none
abbrev pub IsFound : (ℕ → Core) → View → Reply → Result ℕ Error → Type 0
IsFound F v reply (Ok id) =
    (end : ℕ) × (reply ≡ Found (F id) (here (record { index = end; left = [] }) (table F v)))
IsFound F v reply (Err OutOfMemory) = Unit {0}
IsFound F v reply (Err e) = reply ≡ Refused (kind e)

-- ---- whatever says what the indexes stand for; there is always one (law each_arena_has_a_model)
abbrev pub FindsFront : View → List ℕ → Reply → Answer → Type 0
FindsFront v bytes reply result = (F : ℕ → Core) → Holds F v → IsFront F v bytes reply result

abbrev pub FindsWhole : View → Reply → Result ℕ Error → Type 0
FindsWhole v reply result = (F : ℕ → Core) → Holds F v → IsFound F v reply result
