-- The codes of why a name has no text.
use Rattle.std.specs.Prelude.{ℕ, zero, suc, List, [], ◌∷◌, slice_get, Option, None}
use Rattle.demangle_text.specs.declared.error.Error.{Error}
use Rattle.demangle_text.specs.declared.error.Error.TheVariants as reading
use Rattle.demangle_context.specs.declared.error.DemangleError.{DemangleError}
use Rattle.demangle_context.specs.declared.error.DemangleError.TheVariants as printing
use Rattle.demangler.specs.declared.fault.SymbolFault.{SymbolFault}
use Rattle.demangler.specs.declared.fault.SymbolFault.TheVariants as fault

-- Those that come have a code of their own, from 1 to 11.
abbrev pub code_of_reading : Error → ℕ
code_of_reading reading.UnexpectedEnd = 1
code_of_reading reading.UnexpectedText = 2
code_of_reading reading.Overflow = 3
code_of_reading reading.TooMuchRecursion = 4
code_of_reading _ = 0

abbrev pub code_of_reference : Error → ℕ
code_of_reference reading.BadTemplateArgReference = 5
code_of_reference reading.ForwardTemplateArgReference = 6
code_of_reference reading.BadLeafNameReference = 7
code_of_reference _ = 0

abbrev pub code_of_printing : DemangleError → ℕ
code_of_printing (printing.Reference e) = code_of_reference e
code_of_printing printing.TooMuchRecursion = 8
code_of_printing printing.NotUtf8 = 9
code_of_printing printing.TooLong = 10
code_of_printing _ = 0

abbrev pub code_of : SymbolFault → ℕ
code_of (fault.Read e) = code_of_reading e
code_of (fault.Print e) = code_of_printing e
code_of fault.OutOfMemory = 11

-- the causes in the order of their codes
abbrev pub causes : List SymbolFault
causes =
    fault.Read reading.UnexpectedEnd
    ∷ fault.Read reading.UnexpectedText
    ∷ fault.Read reading.Overflow
    ∷ fault.Read reading.TooMuchRecursion
    ∷ fault.Print (printing.Reference reading.BadTemplateArgReference)
    ∷ fault.Print (printing.Reference reading.ForwardTemplateArgReference)
    ∷ fault.Print (printing.Reference reading.BadLeafNameReference)
    ∷ fault.Print printing.TooMuchRecursion
    ∷ fault.Print printing.NotUtf8
    ∷ fault.Print printing.TooLong
    ∷ fault.OutOfMemory
    ∷ []

abbrev pub fault_at : ℕ → Option SymbolFault
fault_at zero = None
fault_at (suc n) = slice_get causes n
