-- What holds of items, and of each cut.
use Rattle.std.specs.Prelude.{◌≡◌, ℕ, List, ◌++◌, Option, Some, None}
use Rattle.demangle_printing.specs.State.{Event}
use Rattle.demangle_printing.specs.Laws.{AreClosed}
use Rattle.demangle_printing.specs.Outcome.{text_of}
use Rattle.demangle_parts_text.specs.Items.{Items, items, text_in}
use Rattle.demangle_parts_text.specs.Split.{colons, cut}

abbrev pub KeepsText : Type 0
KeepsText = (es : List Event) → AreClosed es → text_in (items es) ≡ text_of es

abbrev pub in_scope : Option (List ℕ) → List ℕ → List ℕ
in_scope None base = base
in_scope (Some scope) base = scope ++ (colons ++ base)

abbrev pub JoinsCut : Type 0
JoinsCut = (i : Items) → in_scope (cut i).scope (cut i).base ++ (cut i).after ≡ text_in i
