-- Answers whose only refusal is want of memory.
use Rattle.std.specs.Prelude.{◌≡◌, Result, IfErr}
use Rattle.demangle_text.specs.declared.error.Error.{Error}
use Rattle.demangle_text.specs.declared.error.Error.TheVariants.{OutOfMemory}

abbrev pub OfMemory : {A : Type 0} → Result A Error → Type 0
OfMemory r = IfErr r (λ e. e ≡ OutOfMemory)
