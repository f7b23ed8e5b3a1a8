-- What the parts of a text are, and of what is heard.
use Rattle.std.specs.Prelude.{◌≡◌, Bool, List, Option, Some, None, string_bytes}
use Rattle.demangle_printing.specs.Laws.{AreClosed}
use Rattle.demangle_meets.specs.Seen.{Call, HaveText, events_of}
use Rattle.demangle_parts_text.specs.Items.{items}
use Rattle.demangle_parts_text.specs.Split.{Cut, cut_if}
use Rattle.demangle_parts_text.specs.Walk.{parts_at}
use Rattle.demangle_parts_text.specs.declared.divided.Divided.{Divided}

abbrev pub shown : Divided → Cut
shown d = parts_at (record { scope = d.scope; end = d.end }) (string_bytes d.text)

-- A whole printing was heard: each node that began ended, and no piece was empty.
abbrev pub IsWhole : Option (List Call) → Type 0
IsWhole None = Unit {0}
IsWhole (Some cs) = AreClosed (events_of cs) × HaveText cs

-- Its text has the parts that its items have; nothing is answered only where the calls were lost.
abbrev pub IsCutOf : (has_parts : Bool) → Option (List Call) → Option Divided → Type 0
IsCutOf has None result = result ≡ None
IsCutOf has (Some cs) None = ⊥
IsCutOf has (Some cs) (Some d) = shown d ≡ cut_if has (items (events_of cs))
