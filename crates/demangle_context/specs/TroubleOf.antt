-- Why a printing stopped, as contracts see it, and which error that is.
use Rattle.std.specs.Prelude.{Option, Some, None, Result, Ok, Err}
use Rattle.demangle_text.specs.declared.error.Error.TheVariants as reference
use Rattle.demangle_printing.specs.State.{Fault}
use Rattle.demangle_printing.specs.State as faults
use Rattle.demangle_meets.specs.Page as page
use Rattle.demangle_context.specs.declared.error.DemangleError.{DemangleError}
use Rattle.demangle_context.specs.declared.error.DemangleError.TheVariants as error
use Rattle.demangle_context.specs.declared.trouble.PrintFault.{PrintFault}
use Rattle.demangle_context.specs.declared.trouble.PrintFault.TheVariants as of_fault
use Rattle.demangle_context.specs.declared.trouble.Trouble.{Trouble}
use Rattle.demangle_context.specs.declared.trouble.Trouble.TheVariants as of_trouble

abbrev pub fault_of : PrintFault → Fault
fault_of of_fault.BadTemplateArgReference = faults.BadTemplateArgReference
fault_of of_fault.ForwardTemplateArgReference = faults.ForwardTemplateArgReference
fault_of of_fault.BadLeafNameReference = faults.BadLeafNameReference
fault_of of_fault.TooMuchRecursion = faults.TooMuchRecursion
fault_of of_fault.NotUtf8 = faults.NotUtf8
fault_of of_fault.TooLong = faults.TooLong

abbrev pub trouble_of : Trouble → page.Trouble
trouble_of (of_trouble.Fault f) = page.fault (fault_of f)
trouble_of of_trouble.Failed = page.lost page.failed
trouble_of of_trouble.Refused = page.lost page.refused
trouble_of of_trouble.Full = page.lost page.full

-- ---- errors
abbrev pub error_at : Fault → DemangleError
error_at faults.BadTemplateArgReference = error.Reference reference.BadTemplateArgReference
error_at faults.ForwardTemplateArgReference = error.Reference reference.ForwardTemplateArgReference
error_at faults.BadLeafNameReference = error.Reference reference.BadLeafNameReference
error_at faults.TooMuchRecursion = error.TooMuchRecursion
error_at faults.NotUtf8 = error.NotUtf8
error_at faults.TooLong = error.TooLong

abbrev pub error_of_loss : page.Loss → DemangleError
error_of_loss page.failed = error.Sink
error_of_loss page.refused = error.OutOfMemory
error_of_loss page.full = error.OutOfMemory

abbrev pub error_of : page.Trouble → DemangleError
error_of (page.fault f) = error_at f
error_of (page.lost c) = error_of_loss c

abbrev pub error_in : Trouble → DemangleError
error_in t = error_of (trouble_of t)

-- what a printing answers at its end
abbrev pub answer_of : Option page.Trouble → Result (Unit {0}) DemangleError
answer_of None = Ok tt
answer_of (Some t) = Err (error_of t)

-- ---- answers of a context
abbrev pub refusal_of : DemangleError → Trouble
refusal_of error.TooLong = of_trouble.Fault of_fault.TooLong
refusal_of error.Sink = of_trouble.Failed
refusal_of _ = of_trouble.Refused

abbrev pub refusal_in : Result (Unit {0}) DemangleError → Option Trouble
refusal_in (Ok x) = None
refusal_in (Err e) = Some (refusal_of e)

abbrev pub full_in : Result (Unit {0}) DemangleError → Option Trouble
full_in (Ok x) = None
full_in (Err e) = Some of_trouble.Full
