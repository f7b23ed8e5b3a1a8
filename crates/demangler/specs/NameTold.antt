-- What the call that reads a name and tells a listener its text does, by what the name's reading and printing come to.
use Rattle.std.specs.Prelude.{◌≡◌, ◌⊎◌, ℕ, Bool, true, List, [], Option, Result, Ok, Err}
use Rattle.demangle_core.specs.Core.{Core}
use Rattle.demangle_grammar.specs.Code.{Found, Here}
use Rattle.demangle_printing.specs.Outcome.{Options}
use Rattle.demangle_meets.specs.Seen.{Seen, Grows, Told}
use Rattle.demangle_meets.specs.Goes.{Rose}
use Rattle.demangle_context.specs.declared.error.DemangleError.{DemangleError}
use Rattle.demangle_context.specs.declared.error.DemangleError.TheVariants as printing
use Rattle.demangler.specs.declared.fault.SymbolFault.{SymbolFault}
use Rattle.demangler.specs.declared.fault.SymbolFault.TheVariants as fault
use Rattle.demangler.specs.Answer.{is_of_name, is_of_tree}
use Rattle.demangle_read.specs.Reading.{reading, whole}
use Rattle.demangle_lines_print.specs.Telling.{telling, Tells}

-- ---- answers
-- The text that is told is that of the answer; of the answer's own fault it is told exactly. That the listener failed
-- is told where its count of failures rose.
abbrev pub IsToldAnswer : Result (List ℕ) SymbolFault → (old new : Seen) → Result (Unit {0}) SymbolFault → Type 0
IsToldAnswer answer old new (Ok v) = (text : List ℕ) × (answer ≡ Ok text) × Grows old.text new.text text
IsToldAnswer answer old new (Err (fault.Print printing.Sink)) = Rose old.faults new.faults
IsToldAnswer answer old new (Err (fault.Print e)) = answer ≡ Err (fault.Print e)
IsToldAnswer answer old new (Err (fault.Read e)) = answer ≡ Err (fault.Read e)
IsToldAnswer answer old new (Err fault.OutOfMemory) = Unit {0}

-- The count of failures stays, but where the listener failed.
abbrev pub KeepsFaults : (old new : Seen) → Result (Unit {0}) SymbolFault → Type 0
KeepsFaults old new (Err (fault.Print printing.Sink)) = Unit {0}
KeepsFaults old new r = new.faults ≡ old.faults

-- A text that is told afterwards was told before, and has some more.
abbrev pub Lengthens : (old new : Option (List ℕ)) → Type 0
Lengthens old new = (more : List ℕ) × Grows old new more

-- ---- events
-- The name is read whole, and the listener was told of the printing of its tree.
pub record Hears (old new : Seen) (limit : ℕ) (o : Options) (bytes : List ℕ) (r : Result (Unit {0}) DemangleError)
    : Type 0 where
  pub tree : Core
  pub end : Here
  pub reads : whole (reading limit bytes) ≡ Found tree end
  pub tells : Tells old new o.limit (telling end.table bytes o tree) r

pub record HearsNothing (old new : Seen) : Type 0 where
  pub told : Told old new []
  pub faults : new.faults ≡ old.faults
  pub refusals : new.refusals ≡ old.refusals

-- All events on Ok; none where the name isn't read. Where its tree isn't printed, or there is no memory, those before
-- the fault, or a front of them, and then ends of nodes.
abbrev pub NameTold : (old new : Seen) (limit : ℕ) → Options → List ℕ → Result (Unit {0}) SymbolFault → Type 0
NameTold old new limit o bytes (Ok v) = Hears old new limit o bytes (Ok v)
NameTold old new limit o bytes (Err (fault.Read e)) = HearsNothing old new
NameTold old new limit o bytes (Err (fault.Print e)) = Hears old new limit o bytes (Err e)
NameTold old new limit o bytes (Err fault.OutOfMemory) =
    HearsNothing old new ⊎ Hears old new limit o bytes (Err printing.OutOfMemory)

-- ---- causes
-- the errors of printing a tree for a listener that may fail
abbrev pub is_of_telling : DemangleError → Bool
is_of_telling printing.Sink = true
is_of_telling e = is_of_tree e

-- want of memory is never told within another fault
abbrev pub may_be_told : SymbolFault → Bool
may_be_told (fault.Read e) = is_of_name e
may_be_told (fault.Print e) = is_of_telling e
may_be_told fault.OutOfMemory = true
