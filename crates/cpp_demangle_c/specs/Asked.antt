-- What a call asks for: the options in the library's words, and the answer of a name under them.
use Rattle.std.specs.Prelude.{◌≡◌, ℕ, ◌<◌, ◌==◌, ◌^◌, ◌-◌, if◌then◌else◌, List, Option, Some, None, Result, Ok, Err}
use Rattle.std.specs.Prelude.{Vec}
use Rattle.std.specs.declared.alloc.Global.{Global}
use Rattle.demangle_printing.specs.Outcome.{Options, outcome}
use Rattle.demangler.specs.Answer.{answer_of}
use Rattle.demangler.specs.declared.fault.SymbolFault.{SymbolFault}
use Rattle.demangler.specs.declared.fault.SymbolFault.TheVariants as fault
use Rattle.cpp_demangle_c.specs.declared.settings.Settings.{Settings}

-- neither limit on levels is 0
abbrev pub IsInRange : Settings → Type 0
IsInRange s = (0 < s.parse_limit) × (0 < s.print_limit)

-- the greatest number stands for texts of any length
abbrev pub output_limit_of : ℕ → Option ℕ
output_limit_of n = if n == 2 ^ 64 - 1 then None else Some n

abbrev pub print_options : Settings → Options
print_options s = record {
  limit = s.print_limit;
  no_params = s.no_params;
  no_return_type = s.no_return_type;
  hide_expression_literal_types = s.hide_literal_types;
  output_limit = output_limit_of s.output_limit;
}

-- the name's text under these options, or why it has none
abbrev pub answer : Settings → (name : List ℕ) → Result (List ℕ) SymbolFault
answer s name = answer_of (outcome s.parse_limit (print_options s) name)

-- It is this text, or this is why there is none; or there was no memory.
abbrev pub IsTextOf : Result (List ℕ) SymbolFault → Result (Vec ℕ Global) SymbolFault → Type 0
IsTextOf answer (Ok text) = answer ≡ Ok text.items
IsTextOf answer (Err (fault.Read e)) = answer ≡ Err (fault.Read e)
IsTextOf answer (Err (fault.Print e)) = answer ≡ Err (fault.Print e)
IsTextOf answer (Err fault.OutOfMemory) = Unit {0}
