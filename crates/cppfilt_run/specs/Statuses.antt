-- The status of a sink's refusal.
use Rattle.demangle_context.specs.declared.error.SinkFault.{SinkFault}
use Rattle.demangle_context.specs.declared.error.SinkFault.TheVariants as fault
use Rattle.cppfilt_run.specs.declared.status.Status.{Status}
use Rattle.cppfilt_run.specs.declared.status.Status.TheVariants.{WriteFault, OutOfMemory}

abbrev pub refusal_status : SinkFault → Status
refusal_status fault.Failed = WriteFault
refusal_status fault.OutOfMemory = OutOfMemory
