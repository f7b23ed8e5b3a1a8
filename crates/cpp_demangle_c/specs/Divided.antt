-- The parts of a name under the options that C hands in, and where they stand in its text.
use Rattle.std.specs.Prelude.{◌≡◌, ℕ, ◌+◌, ◌^◌, ◌-◌, false, true, List, [], ◌∷◌, ◌++◌, length, is_some, unwrap_or}
use Rattle.std.specs.Prelude.{Option, Some, None, Result, Ok, Err}
use Rattle.demangle_core.specs.Core.{Core}
use Rattle.demangle_core.specs.Table.{Table}
use Rattle.demangle_text.specs.Kind.{Unread, Text}
use Rattle.demangle_grammar.specs.Code.{Reply, Found, Refused}
use Rattle.demangle_printing.specs.Outcome.{Options}
use Rattle.demangle_context.specs.TroubleOf.{error_at}
use Rattle.demangle_parts_text.specs.Laws.{in_scope}
use Rattle.demangler.specs.Answer.{read_error}
use Rattle.demangler.specs.Contents.{contents}
use Rattle.demangle_read.specs.Reading.{reading}
use Rattle.demangler.specs.declared.fault.SymbolFault.{SymbolFault}
use Rattle.demangler.specs.declared.fault.SymbolFault.TheVariants as fault
use Rattle.demangle_parts.specs.Answers.{parts_in}
use Rattle.demangle_parts.specs.Parts.{Divided, Into, Not, Parts, divided}
use Rattle.demangle_parts.specs.declared.kind.Kind.{Kind}
use Rattle.demangle_parts.specs.declared.kind.Kind.TheVariants as kind
use Rattle.demangle_parts.specs.declared.parts.Parts as code
use Rattle.cpp_demangle_c.specs.Asked.{print_options}
use Rattle.cpp_demangle_c.specs.declared.parts.Places.{Places}
use Rattle.cpp_demangle_c.specs.declared.settings.Settings.{Settings}

-- ---- the parts, or why there are none
abbrev pub parts_from : Divided → Result Parts SymbolFault
parts_from (Into p) = Ok p
parts_from (Not f) = Err (fault.Print (error_at f))

-- no bytes may be left behind the name
abbrev pub when_read : (bytes : List ℕ) → Options → (left : List ℕ) → Core → Table → Result Parts SymbolFault
when_read bytes o [] x table = parts_from (divided o (contents bytes table x))
when_read bytes o (b ∷ bs) x table = Err (fault.Read (read_error (Unread Text)))

abbrev pub after_reading : (bytes : List ℕ) → Options → Reply → Result Parts SymbolFault
after_reading bytes o (Found x h) = when_read bytes o h.spot.left x h.table
after_reading bytes o (Refused k) = Err (fault.Read (read_error k))

abbrev pub parts_answer : Settings → (name : List ℕ) → Result Parts SymbolFault
parts_answer s name = after_reading name (print_options s) (reading s.parse_limit name)

-- They are these parts, or this is why there are none; or there was no memory.
abbrev pub IsPartsAnswer : Result Parts SymbolFault → Result code.Parts SymbolFault → Type 0
IsPartsAnswer answer (Ok p) = answer ≡ Ok (parts_in p)
IsPartsAnswer answer (Err (fault.Read e)) = answer ≡ Err (fault.Read e)
IsPartsAnswer answer (Err (fault.Print e)) = answer ≡ Err (fault.Print e)
IsPartsAnswer answer (Err fault.OutOfMemory) = Unit {0}

-- ---- in a text
-- scope and `::`, where there is one, base and what is behind it
abbrev pub joined : Parts → List ℕ
joined p = in_scope p.cut.scope p.cut.base ++ p.cut.after

abbrev pub parts_text : Result Parts SymbolFault → Result (List ℕ) SymbolFault
parts_text (Ok p) = Ok (joined p)
parts_text (Err f) = Err f

-- a name's text is divided without its result type
abbrev pub without_result : Settings → Settings
without_result s = record s { no_return_type = true }

-- They join to this text, or this is why there are none; or there was no memory.
abbrev pub IsTextAnswer : Result (List ℕ) SymbolFault → Result code.Parts SymbolFault → Type 0
IsTextAnswer answer (Ok p) = answer ≡ Ok (joined (parts_in p))
IsTextAnswer answer (Err (fault.Read e)) = answer ≡ Err (fault.Read e)
IsTextAnswer answer (Err (fault.Print e)) = answer ≡ Err (fault.Print e)
IsTextAnswer answer (Err fault.OutOfMemory) = Unit {0}

abbrev pub kind_number : Kind → ℕ
kind_number kind.Function = 1
kind_number kind.Data = 2
kind_number kind.Special = 3
kind_number kind.Block = 4
kind_number kind.Keyed = 5
kind_number kind.TopType = 6

abbrev pub scope_len_of : Option (List ℕ) → ℕ
scope_len_of None = 0
scope_len_of (Some scope) = length scope

-- behind the scope and `::`
abbrev pub base_at_of : Option (List ℕ) → ℕ
base_at_of None = 0
base_at_of (Some scope) = length scope + 2

abbrev pub places_of : Parts → Places
places_of p = record {
  kind = kind_number p.kind;
  has_scope = is_some p.cut.scope;
  scope_len = scope_len_of p.cut.scope;
  base_at = base_at_of p.cut.scope;
  base_len = length p.cut.base;
  arity = unwrap_or p.arity (2 ^ 64 - 1);
}

-- of a name that has no text
abbrev pub no_places : Places
no_places =
    record { kind = 0; has_scope = false; scope_len = 0; base_at = 0; base_len = 0; arity = 2 ^ 64 - 1 }

abbrev pub TellsPlaces : Result Parts SymbolFault → Places → Type 0
TellsPlaces (Ok p) told = told ≡ places_of p
TellsPlaces (Err f) told = ⊥
