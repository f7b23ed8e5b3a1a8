-- The codes of the statuses, and what is written for them.
use Rattle.std.specs.Prelude.{ℕ, List, [], ◌∷◌, ◌++◌, codes}
use Rattle.cppfilt_run.specs.declared.status.Status.{Status}
use Rattle.cppfilt_run.specs.declared.status.Status.TheVariants.{Done, Help, Usage, ReadFault, WriteFault}
use Rattle.cppfilt_run.specs.declared.status.Status.TheVariants.{InputTooLong, OutOfMemory}

-- the process's exit status
abbrev pub code_of : Status → ℕ
code_of Done = 0
code_of Help = 0
code_of Usage = 2
code_of ReadFault = 3
code_of WriteFault = 4
code_of InputTooLong = 5
code_of OutOfMemory = 6

-- what goes to standard error, through its line feed
abbrev pub message_of : Status → List ℕ
message_of Done = []
message_of Help = []
message_of Usage = []
message_of ReadFault = codes "cppfilt: read fault" ++ 10 ∷ []
message_of WriteFault = codes "cppfilt: write fault" ++ 10 ∷ []
message_of InputTooLong = codes "cppfilt: input too long" ++ 10 ∷ []
message_of OutOfMemory = codes "cppfilt: out of memory" ++ 10 ∷ []
