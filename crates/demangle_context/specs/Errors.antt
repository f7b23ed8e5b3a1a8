-- What the errors of printing say, and which faults of a printing they are.
use Rattle.std.specs.Prelude.{ℕ, List, codes, Option, Some, None}
use Rattle.demangle_text.specs.declared.error.Error.{Error}
use Rattle.demangle_text.specs.declared.error.Error.TheVariants as reference
use Rattle.demangle_text.specs.Texts.{error_text}
use Rattle.demangle_printing.specs.State.{Fault}
use Rattle.demangle_printing.specs.State as faults
use Rattle.demangle_context.specs.declared.error.SinkFault.{SinkFault}
use Rattle.demangle_context.specs.declared.error.SinkFault.TheVariants as fault
use Rattle.demangle_context.specs.declared.error.DemangleError.{DemangleError}
use Rattle.demangle_context.specs.declared.error.DemangleError.TheVariants as error

abbrev pub printing_text : DemangleError → List ℕ
printing_text (error.Reference e) = error_text e
printing_text error.TooMuchRecursion = codes "encountered too much recursion when printing symbol"
printing_text error.NotUtf8 = codes "literal is not valid UTF-8"
printing_text error.TooLong = codes "text is longer than the limit"
printing_text error.Sink = codes "sink refused a piece"
printing_text error.OutOfMemory = codes "out of memory"

-- what a listener's refusal is to the printing
abbrev pub error_of : SinkFault → DemangleError
error_of fault.Failed = error.Sink
error_of fault.OutOfMemory = error.OutOfMemory

-- the faults of look-ups
abbrev pub reference_fault : Error → Option Fault
reference_fault reference.BadTemplateArgReference = Some faults.BadTemplateArgReference
reference_fault reference.ForwardTemplateArgReference = Some faults.ForwardTemplateArgReference
reference_fault reference.BadLeafNameReference = Some faults.BadLeafNameReference
reference_fault _ = None

-- the fault of a printing that an error is; neither want of memory nor a listener's refusal is one
abbrev pub fault_of : DemangleError → Option Fault
fault_of (error.Reference e) = reference_fault e
fault_of error.TooMuchRecursion = Some faults.TooMuchRecursion
fault_of error.NotUtf8 = Some faults.NotUtf8
fault_of error.TooLong = Some faults.TooLong
fault_of error.Sink = None
fault_of error.OutOfMemory = None
