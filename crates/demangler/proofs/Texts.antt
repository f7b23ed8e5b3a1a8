-- What a listener heard that keeps the text and never fails, as the answer of a call.
use Rattle.std.specs.Prelude.{◌≡◌, ℕ, true, List, [], ◌++◌, Some, None, Result, Ok, Err}
use Rattle.std.proofs.Common.{refl, sym, ap, ◌∙◌, arith, ⊎_elim}
use Rattle.demangle_meets.specs.Goes.{Rose}
use Rattle.demangle_meets.specs.Seen.{Seen}
use Rattle.demangle_context.specs.declared.error.DemangleError.TheVariants as printing
use Rattle.demangler.specs.declared.fault.SymbolFault.{SymbolFault}
use Rattle.demangler.specs.declared.fault.SymbolFault.TheVariants as fault
use Rattle.demangler.specs.Answer.{IsAnswer, may_come}
use Rattle.demangler.specs.Filled.{IsFilled}
use Rattle.demangler.specs.NameTold.{IsToldAnswer, may_be_told}

-- what is seen of it, with this text
abbrev with_text : (text : List ℕ) (refusals : ℕ) → Seen
with_text text n = record { text = Some text; calls = None; faults = 0; refusals = n }

never_rose : {A : Type 0} → Rose 0 0 → A
never_rose rose = ⊎_elim (λ l. absurd (omega (arith, l))) (λ e. absurd (omega (arith, e))) rose

module _ (answer : Result (List ℕ) SymbolFault) (before new : List ℕ) (m n : ℕ) where
  -- ---- a text
  pub filled_text : (after : List ℕ) → before ≡ [] → after ≡ new →
      IsToldAnswer answer (with_text before m) (with_text new n) (Ok tt) → answer ≡ Ok after
  filled_text after first last told =
      told.1 ∙ ap Ok (sym (last ∙ told.2 ∙ ap (λ l. l ++ told.0) first))

  pub filled_sink : (after : List ℕ) → Some before ≡ Some [] → Some new ≡ Some after →
      IsToldAnswer answer (with_text before m) (with_text new n) (Ok tt) → answer ≡ Ok after
  filled_sink after first last told =
      let e : before ≡ [] = cc in
      let f : after ≡ new = cc in
      filled_text after e f told

  -- ---- a fault
  pub is_refused : (f : SymbolFault) → IsToldAnswer answer (with_text before m) (with_text new n) (Err f) →
      IsAnswer answer (Err f)
  is_refused (fault.Print printing.Sink) told = never_rose told
  is_refused (fault.Print (printing.Reference e)) told = told
  is_refused (fault.Print printing.TooMuchRecursion) told = told
  is_refused (fault.Print printing.NotUtf8) told = told
  is_refused (fault.Print printing.TooLong) told = told
  is_refused (fault.Print printing.OutOfMemory) told = told
  is_refused (fault.Read e) told = told
  is_refused fault.OutOfMemory told = tt

  pub is_caused : (f : SymbolFault) → IsToldAnswer answer (with_text before m) (with_text new n) (Err f) →
      may_be_told f ≡ true → may_come f ≡ true
  is_caused (fault.Print printing.Sink) told h = never_rose told
  is_caused (fault.Print (printing.Reference e)) told h = h
  is_caused (fault.Print printing.TooMuchRecursion) told h = h
  is_caused (fault.Print printing.NotUtf8) told h = h
  is_caused (fault.Print printing.TooLong) told h = h
  is_caused (fault.Print printing.OutOfMemory) told h = h
  is_caused (fault.Read e) told h = h
  is_caused fault.OutOfMemory told h = refl

  told_fault : (f : SymbolFault) → IsAnswer answer (Err f) → (f ≡ fault.OutOfMemory → ⊥) → answer ≡ Err f
  told_fault (fault.Print e) d other = d
  told_fault (fault.Read e) d other = d
  told_fault fault.OutOfMemory d other = absurd (other refl)

  pub filled_nothing : (f : SymbolFault) (cleared : List ℕ) → cleared ≡ [] →
      IsToldAnswer answer (with_text before m) (with_text new n) (Err f) → IsFilled answer cleared (Err f)
  filled_nothing f cleared is told = (is, told_fault f (is_refused f told))
