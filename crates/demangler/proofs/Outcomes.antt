-- The outcome of a name, by its reading and the printing of its tree.
use Rattle.std.specs.Prelude.{◌≡◌, ℕ, true, List, [], ◌∷◌, Some, None, Ok, Err, String, string_bytes}
use Rattle.std.specs.declared.alloc.Global.{Global}
use Rattle.std.proofs.Common.{refl, sym, subst, ap, ◌∙◌}
use Rattle.demangle_core.specs.Core.{Core}
use Rattle.demangle_core.specs.Table.{Table}
use Rattle.demangle_cells.specs.View.{View}
use Rattle.demangle_text.specs.Kind.{Kind, kind}
use Rattle.demangle_text.specs.declared.error.Error.{Error}
use Rattle.demangle_text.specs.declared.error.Error.TheVariants as reading
use Rattle.demangle_grammar.specs.Code.{Reply, Found, Refused, Here, here}
use Rattle.demangle_printing.specs.State.{Fault, BadTemplateArgReference, ForwardTemplateArgReference}
use Rattle.demangle_printing.specs.State.{BadLeafNameReference, TooMuchRecursion, NotUtf8, TooLong, Answer, yes, no}
use Rattle.demangle_printing.specs.Trees.{with_table}
use Rattle.demangle_printing.specs.Outcome.{Options, Shown, NotRead, NotPrinted, printed, outcome_of, when_read}
use Rattle.demangle_printing.specs.Outcome.{text_of}
use Rattle.demangle_printing.specs.Outcome.{after_reading, outcome}
use Rattle.demangle_printing.specs.Laws.{told}
use Rattle.demangle_context.specs.TroubleOf.{error_at}
use Rattle.demangle_context.specs.declared.error.DemangleError.{DemangleError}
use Rattle.demangle_context.specs.declared.error.DemangleError.TheVariants as printing
use Rattle.demangle_read.specs.Reading.{reading as name_reading, whole_at, whole}
use Rattle.demangle_read.specs.Found.{IsFound}
use Rattle.demangle_lines_print.specs.Telling.{Meets, IsText}
use Rattle.demangler.specs.declared.fault.SymbolFault.TheVariants as fault
use Rattle.demangler.specs.Answer.{answer_of, IsAnswer, is_of_name, is_of_tree, may_come, read_fault, print_fault}
use Rattle.demangler.proofs.Causes.{may_stop, name_stops, error_stops}

-- ---- reading
whole_read : (bytes : List ℕ) (o : Options) (l : List ℕ) (x : Core) (h : Here) → h.spot.left ≡ l →
    when_read bytes o l x h.table ≡ after_reading bytes o (whole_at l x h)
whole_read bytes o [] x h e = sym (ap (λ l. when_read bytes o l x h.table) e)
whole_read bytes o (b ∷ bs) x h e = refl

whole_after : (bytes : List ℕ) (o : Options) (r : Reply) → after_reading bytes o r ≡ after_reading bytes o (whole r)
whole_after bytes o (Found x h) = whole_read bytes o h.spot.left x h refl
whole_after bytes o (Refused k) = refl

-- the outcome is what comes after the whole reading
pub outcome_after : (limit : ℕ) (o : Options) (bytes : List ℕ) →
    outcome limit o bytes ≡ after_reading bytes o (whole (name_reading limit bytes))
unfolding outcome
outcome_after limit o bytes = whole_after bytes o (name_reading limit bytes)

pub outcome_found : (limit : ℕ) (o : Options) (bytes : List ℕ) (x : Core) (table : Table) (end : ℕ) →
    whole (name_reading limit bytes) ≡ Found x (here (record { index = end; left = [] }) table) →
    outcome limit o bytes ≡ outcome_of (printed (with_table table bytes) o x)
outcome_found limit o bytes x table end e = outcome_after limit o bytes ∙ ap (after_reading bytes o) e

pub outcome_refused : (limit : ℕ) (o : Options) (bytes : List ℕ) (k : Kind) →
    whole (name_reading limit bytes) ≡ Refused k → outcome limit o bytes ≡ NotRead k
outcome_refused limit o bytes k e = outcome_after limit o bytes ∙ ap (after_reading bytes o) e

-- ---- why a name isn't read
abbrev StopsSo : Reply → Type 0
StopsSo (Found x h) = Unit {0}
StopsSo (Refused k) = may_stop k ≡ true

whole_stops_at : (l : List ℕ) (x : Core) (h : Here) → StopsSo (whole_at l x h)
whole_stops_at [] x h = tt
whole_stops_at (b ∷ bs) x h = refl

whole_stops : (r : Reply) → ((k : Kind) → r ≡ Refused k → may_stop k ≡ true) → StopsSo (whole r)
whole_stops (Found x h) f = whole_stops_at h.spot.left x h
whole_stops (Refused k) f = f k refl

pub reading_stops : (limit : ℕ) (bytes : List ℕ) (k : Kind) → whole (name_reading limit bytes) ≡ Refused k →
    may_stop k ≡ true
reading_stops limit bytes k e =
    subst StopsSo e (whole_stops (name_reading limit bytes) (name_stops _ _ bytes))

-- ---- answers
-- an error of the whole reading
read_as : (limit : ℕ) (o : Options) (bytes : List ℕ) (e : Error) →
    whole (name_reading limit bytes) ≡ Refused (kind e) →
    (answer_of (outcome limit o bytes) ≡ Err (fault.Read e)) × (is_of_name e ≡ true)
read_as limit o bytes e r =
    let s = error_stops e (reading_stops limit bytes (kind e) r) in
    (ap answer_of (outcome_refused limit o bytes (kind e) r) ∙ ap (λ x. Err (fault.Read x)) s.1, s.0)

pub answers_unread : (limit : ℕ) (o : Options) (bytes : List ℕ) (F : ℕ → Core) (v : View) (e : Error) →
    IsFound F v (whole (name_reading limit bytes)) (Err e) →
    IsAnswer (answer_of (outcome limit o bytes)) (Err (read_fault e)) × (may_come (read_fault e) ≡ true)
answers_unread limit o bytes F v reading.OutOfMemory d = (tt, refl)
answers_unread limit o bytes F v e d = read_as limit o bytes e d

-- what the printing of a tree tells is its outcome
pub told_text : (x : Answer Core) (text : List ℕ) → (told x).1 ≡ None → text ≡ text_of (told x).0 →
    outcome_of x ≡ Shown text
told_text (yes m s) text n e = ap Shown (sym e)
told_text (no m f) text n e = absurd (some_not_none n)
  where
    some_not_none : {A : Type 0} {a : A} → Some a ≡ None → ⊥
    some_not_none e = cc

pub told_fault : (x : Answer Core) (f : Fault) → (told x).1 ≡ Some f → outcome_of x ≡ NotPrinted f
told_fault (yes m s) f e = absurd (none_not_some e)
  where
    none_not_some : {A : Type 0} {a : A} → None ≡ Some a → ⊥
    none_not_some e = cc
told_fault (no m g) f e = ap NotPrinted (let h : g ≡ f = cc in h)

-- each fault is one of a tree
pub of_tree : (f : Fault) → is_of_tree (error_at f) ≡ true
of_tree BadTemplateArgReference = refl
of_tree ForwardTemplateArgReference = refl
of_tree BadLeafNameReference = refl
of_tree TooMuchRecursion = refl
of_tree NotUtf8 = refl
of_tree TooLong = refl

-- ---- of a tree
module _ (limit : ℕ) (o : Options) (bytes : List ℕ) (x : Core) (table : Table) (end : ℕ)
    (found : whole (name_reading limit bytes) ≡ Found x (here (record { index = end; left = [] }) table)) where
  pub answers_text : (text : String Global) → IsText (told (printed (with_table table bytes) o x)) (Ok text) →
      answer_of (outcome limit o bytes) ≡ Ok (string_bytes text)
  answers_text text d =
      ap answer_of
      (outcome_found limit o bytes x table end found
      ∙ told_text (printed (with_table table bytes) o x) (string_bytes text) d.0 d.1)

  pub fault_as : (e : DemangleError) → Meets (told (printed (with_table table bytes) o x)) e →
      answer_of (outcome limit o bytes) ≡ Err (fault.Print e)
  fault_as e d =
      ap answer_of
      (outcome_found limit o bytes x table end found
      ∙ told_fault (printed (with_table table bytes) o x) d.fault d.met)
      ∙ ap (λ v. Err (fault.Print v)) d.is

  pub answers_fault : (e : DemangleError) → IsText (told (printed (with_table table bytes) o x)) (Err e) →
      IsAnswer (answer_of (outcome limit o bytes)) (Err (print_fault e)) × (may_come (print_fault e) ≡ true)
  answers_fault printing.OutOfMemory d = (tt, refl)
  answers_fault e d = (fault_as e d, subst (λ v. is_of_tree v ≡ true) d.is (of_tree d.fault))
