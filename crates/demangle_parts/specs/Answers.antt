-- What the calls that divide names answer.
use Rattle.std.specs.Prelude.{◌≡◌, ◌++◌, Result, Ok, Err}
use Rattle.demangle_printing.specs.Outcome.{text_of}
use Rattle.demangle_context.specs.TroubleOf.{error_at}
use Rattle.demangle_context.specs.declared.error.DemangleError.{DemangleError}
use Rattle.demangle_context.specs.declared.error.DemangleError.TheVariants as printing
use Rattle.demangle_parts_text.specs.Divided.{shown}
use Rattle.demangle_parts_text.specs.Laws.{in_scope}
use Rattle.demangle_parts_text.specs.Split.{Cut}
use Rattle.demangle_lines_print.specs.Telling.{Telling}
use Rattle.demangle_parts.specs.Parts.{Divided, Into, Not, Parts}
use Rattle.demangle_parts.specs.declared.parts.Parts as code

abbrev pub parts_in : code.Parts → Parts
parts_in p = record { kind = p.kind; cut = shown p.divided; arity = p.arity }

-- They are these parts, or this is why there are none; or there was no memory. The listener of the parts never fails.
abbrev pub IsDivided : Divided → Result code.Parts DemangleError → Type 0
IsDivided d (Ok p) = d ≡ Into (parts_in p)
IsDivided d (Err printing.OutOfMemory) = Unit {0}
IsDivided d (Err printing.Sink) = ⊥
IsDivided (Into p) (Err e) = ⊥
IsDivided (Not f) (Err e) = error_at f ≡ e

-- Scope and `::`, where there is one, base and what is behind it are this text.
abbrev pub JoinsTo : Telling → Cut → Type 0
JoinsTo t c = in_scope c.scope c.base ++ c.after ≡ text_of t.0
