-- The scopes of names.
use Rattle.std.specs.Prelude.{ℕ, Bool, true, false, not, List, [], ◌∷◌, Option, Some, None, map, Vec}
use Rattle.std.specs.declared.alloc.Global.{Global}
use Rattle.demangle_core.specs.Core.{Core}
use Rattle.demangle_core.specs.Table.{Table}
use Rattle.demangle_grammar.specs.Code.{Reply, Found, Refused}
use Rattle.demangle_printing.specs.Outcome.{Options, Outcome, Shown, outcome}
use Rattle.demangle_groups.specs.Places.{Entry}
use Rattle.demangler.specs.Contents.{contents}
use Rattle.demangle_read.specs.Reading.{reading}
use Rattle.demangle_parts.specs.Answers.{parts_in}
use Rattle.demangle_parts.specs.Parts.{Divided, Into, Not, divided, for_parts}
use Rattle.demangle_parts.specs.declared.parts.Parts as code

-- it is in a scope or in none, or it is refused
abbrev pub entry_of : Divided → Entry
entry_of (Into p) = Some p.cut.scope
entry_of (Not f) = None

abbrev pub entry_in : Option code.Parts → Entry
entry_in None = None
entry_in (Some p) = Some (parts_in p).cut.scope

-- no bytes may be left behind the name
abbrev pub entry_when_read : (bytes : List ℕ) → Options → (left : List ℕ) → Core → Table → Entry
entry_when_read bytes o [] x table = entry_of (divided o (contents bytes table x))
entry_when_read bytes o (b ∷ bs) x table = None

abbrev pub entry_after : (bytes : List ℕ) → Options → Reply → Entry
entry_after bytes o (Found x h) = entry_when_read bytes o h.spot.left x h.table
entry_after bytes o (Refused k) = None

-- The name is read under the default options, and its tree divided under these.
abbrev pub entry : Options → List ℕ → Entry
entry o bytes = entry_after bytes o (reading 96 bytes)

abbrev pub entries : Options → List (Vec ℕ Global) → List Entry
entries o names = map (λ v. entry o v.items) names

-- ---- the names without a text
abbrev pub is_shown : Outcome → Bool
is_shown (Shown text) = true
is_shown _ = false

abbrev pub has_no_text : Options → Vec ℕ Global → Bool
has_no_text o v = not (is_shown (outcome 96 (for_parts o) v.items))
