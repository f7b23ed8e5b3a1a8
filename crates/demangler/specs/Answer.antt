-- What a name's call answers, by what the reading and the printing of the name come to.
use Rattle.std.specs.Prelude.{◌≡◌, ℕ, codes, Bool, true, false, List, String, string_bytes, Result, Ok, Err}
use Rattle.std.specs.declared.alloc.Global.{Global}
use Rattle.demangle_text.specs.Kind.{Kind, Unread, Deep, Other, End, Text, Bad, Over}
use Rattle.demangle_text.specs.Texts.{error_text}
use Rattle.demangle_text.specs.declared.error.Error.{Error}
use Rattle.demangle_text.specs.declared.error.Error.TheVariants as reading
use Rattle.demangle_printing.specs.Outcome.{Outcome, Shown, NotRead, NotPrinted}
use Rattle.demangle_context.specs.Errors.{printing_text}
use Rattle.demangle_context.specs.TroubleOf.{error_at}
use Rattle.demangle_context.specs.declared.error.DemangleError.{DemangleError}
use Rattle.demangle_context.specs.declared.error.DemangleError.TheVariants as printing
use Rattle.demangler.specs.declared.fault.SymbolFault.{SymbolFault}
use Rattle.demangler.specs.declared.fault.SymbolFault.TheVariants as fault

-- ---- faults
-- what a fault says
abbrev pub fault_text : SymbolFault → List ℕ
fault_text (fault.Read e) = error_text e
fault_text (fault.Print e) = printing_text e
fault_text fault.OutOfMemory = codes "out of memory"

-- why a name isn't read; no reading stops for another cause
abbrev pub read_error : Kind → Error
read_error (Unread End) = reading.UnexpectedEnd
read_error (Unread Text) = reading.UnexpectedText
read_error (Unread Bad) = reading.BadBackReference
read_error (Unread Over) = reading.Overflow
read_error Deep = reading.TooMuchRecursion
read_error Other = reading.UnexpectedText

-- what an error of a call within is: want of memory is told by itself
abbrev pub read_fault : Error → SymbolFault
read_fault reading.OutOfMemory = fault.OutOfMemory
read_fault e = fault.Read e

abbrev pub print_fault : DemangleError → SymbolFault
print_fault printing.OutOfMemory = fault.OutOfMemory
print_fault e = fault.Print e

-- ---- answers
-- the bytes of the text, or the fault
abbrev pub answer_of : Outcome → Result (List ℕ) SymbolFault
answer_of (Shown text) = Ok text
answer_of (NotRead k) = Err (fault.Read (read_error k))
answer_of (NotPrinted f) = Err (fault.Print (error_at f))

-- It is this answer, or there was no memory.
abbrev pub IsAnswer : Result (List ℕ) SymbolFault → Result (String Global) SymbolFault → Type 0
IsAnswer answer (Ok text) = answer ≡ Ok (string_bytes text)
IsAnswer answer (Err (fault.Read e)) = answer ≡ Err (fault.Read e)
IsAnswer answer (Err (fault.Print e)) = answer ≡ Err (fault.Print e)
IsAnswer answer (Err fault.OutOfMemory) = Unit {0}

-- ---- causes
-- the errors of reading a name; a name's back references are judged where they stand, and then it is read otherwise
abbrev pub is_of_name : Error → Bool
is_of_name reading.UnexpectedEnd = true
is_of_name reading.UnexpectedText = true
is_of_name reading.Overflow = true
is_of_name reading.TooMuchRecursion = true
is_of_name _ = false

-- the errors that a reference in a tree may come to
abbrev pub is_of_reference : Error → Bool
is_of_reference reading.BadTemplateArgReference = true
is_of_reference reading.ForwardTemplateArgReference = true
is_of_reference reading.BadLeafNameReference = true
is_of_reference _ = false

-- those of printing a tree into a text that fails for want of memory alone
abbrev pub is_of_tree : DemangleError → Bool
is_of_tree (printing.Reference e) = is_of_reference e
is_of_tree printing.TooMuchRecursion = true
is_of_tree printing.NotUtf8 = true
is_of_tree printing.TooLong = true
is_of_tree printing.Sink = false
is_of_tree printing.OutOfMemory = false

-- want of memory is never told within another fault
abbrev pub may_come : SymbolFault → Bool
may_come (fault.Read e) = is_of_name e
may_come (fault.Print e) = is_of_tree e
may_come fault.OutOfMemory = true
