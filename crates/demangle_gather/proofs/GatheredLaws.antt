-- Laws on what a listener gathers that tells its text and never fails.
use Rattle.std.proofs.Common.{◌≡◌, ℕ, List, ◌++◌, length, take, refl, ap, ◌∙◌, arith, ⊎_elim, Ok, Err}
use Rattle.std.proofs.lemmas.Grind.{common_steps}
use Rattle.std.specs.Prelude.{Some, None, Result}
use Rattle.demangle_meets.specs.Goes.{Rose}
use Rattle.demangle_meets.specs.Seen.{Seen}
use Rattle.demangle_context.specs.declared.error.DemangleError.TheVariants as printing
use Rattle.demangler.specs.NameTold.{IsToldAnswer, Lengthens}
use Rattle.demangler.specs.declared.fault.SymbolFault.{SymbolFault}
use Rattle.demangler.specs.declared.fault.SymbolFault.TheVariants as fault
use Rattle.demangle_gather.specs.Gathered.{IsGathered}

-- what is seen of it, with this text
abbrev with_text : (text : List ℕ) (refusals : ℕ) → Seen
with_text text n = record { text = Some text; calls = None; faults = 0; refusals = n }

never-rose : {A : Type 0} → Rose 0 0 → A
never-rose rose = ⊎_elim (λ l. absurd (omega (arith, l))) (λ e. absurd (omega (arith, e))) rose

told-fault : (answer : Result (List ℕ) SymbolFault) (old new : List ℕ) (m n : ℕ) (f : SymbolFault)
    → IsToldAnswer answer (with_text old m) (with_text new n) (Err f) → (f ≡ fault.OutOfMemory → ⊥) → answer ≡ Err f
told-fault answer old new m n (fault.Print printing.Sink) told other = never-rose told
told-fault answer old new m n (fault.Print (printing.Reference e)) told other = told
told-fault answer old new m n (fault.Print printing.TooMuchRecursion) told other = told
told-fault answer old new m n (fault.Print printing.NotUtf8) told other = told
told-fault answer old new m n (fault.Print printing.TooLong) told other = told
told-fault answer old new m n (fault.Print printing.OutOfMemory) told other = told
told-fault answer old new m n (fault.Read e) told other = told
told-fault answer old new m n fault.OutOfMemory told other = absurd (other refl)

-- ---- what is gathered
-- the text
pub gathered-text : (answer : Result (List ℕ) SymbolFault) (old before new after : List ℕ) (m n : ℕ)
    → before ≡ old → after ≡ new → IsToldAnswer answer (with_text before m) (with_text new n) (Ok tt)
    → IsGathered answer old after (Ok tt)
gathered-text answer old before new after m n first last told =
    (told.0, told.1, last ∙ told.2 ∙ ap (λ l. l ++ told.0) first)

front-taken : (old more : List ℕ) → take (length old) (old ++ more) ≡ old
front-taken old more = grind (arith, common_steps)

-- nothing, once it is cut back
pub gathered-nothing : (answer : Result (List ℕ) SymbolFault) (old before new after cut : List ℕ) (m n : ℕ)
    (f : SymbolFault) → before ≡ old → after ≡ new → Lengthens (Some before) (Some new)
    → IsToldAnswer answer (with_text before m) (with_text new n) (Err f) → cut ≡ take (length old) after
    → IsGathered answer old cut (Err f)
gathered-nothing answer old before new after cut m n f first last longer told is =
    let behind : after ≡ old ++ longer.0 = last ∙ longer.1 ∙ ap (λ l. l ++ longer.0) first in
    (is ∙ ap (take (length old)) behind ∙ front-taken old longer.0, told-fault answer before new m n f told)
