-- What a refusal is by the kind that `clap` says.
use Rattle.std.specs.Prelude.{◌≡◌, ◌≢◌, ⊤}
use Rattle.clap.specs.declared.error.kind.ErrorKind.{ErrorKind}
use Rattle.clap.specs.declared.error.kind.ErrorKind.TheVariants as kind
use Rattle.cppfilt_command.specs.declared.refusal.Refusal.{Refusal}
use Rattle.cppfilt_command.specs.declared.refusal.Refusal.TheVariants as refusal

-- help for help alone, and usage for all other kinds; there may be no memory for the text
abbrev pub IsOfKind : ErrorKind → Refusal → Type 0
IsOfKind k (refusal.Help text) = k ≡ kind.DisplayHelp
IsOfKind k (refusal.Usage text) = (k ≢ kind.DisplayHelp) × (k ≢ kind.OutOfMemory)
IsOfKind k refusal.OutOfMemory = ⊤
