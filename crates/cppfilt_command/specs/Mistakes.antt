-- Why what the command found is no request.
use Rattle.std.specs.Prelude.{◌≡◌, false, List}
use Rattle.clap.specs.Walk.{Row}
use Rattle.cppfilt_command.specs.Asked.{has_good_numbers}
use Rattle.cppfilt_command.specs.declared.request.Mistake.{Mistake}
use Rattle.cppfilt_command.specs.declared.request.Mistake.TheVariants as mistake

abbrev pub IsMistake : List Row → Mistake → Type 0
IsMistake rows (mistake.Number bad) = has_good_numbers rows ≡ false
IsMistake rows mistake.OutOfMemory = Unit {0}
