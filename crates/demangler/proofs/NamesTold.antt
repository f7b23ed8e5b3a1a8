-- From what the printing of a name's tree tells to what a listener is told of a name.
use Rattle.std.specs.Prelude.{◌≡◌, ℕ, true, List, [], Ok, Err}
use Rattle.std.proofs.Common.{refl, subst, ap, ◌∙◌, arith, inl, inr}
use Rattle.demangle_core.specs.Core.{Core}
use Rattle.demangle_core.specs.Table.{Table}
use Rattle.demangle_cells.specs.View.{View}
use Rattle.demangle_text.specs.declared.error.Error.{Error}
use Rattle.demangle_text.specs.declared.error.Error.TheVariants as reading
use Rattle.demangle_grammar.specs.Code.{Found, here}
use Rattle.demangle_printing.specs.Outcome.{Options, outcome, printed, text_of}
use Rattle.demangle_printing.specs.Trees.{with_table}
use Rattle.demangle_meets.specs.Seen.{Seen}
use Rattle.demangle_meets.proofs.Heard.{told_nothing}
use Rattle.demangle_context.specs.declared.error.DemangleError.{DemangleError}
use Rattle.demangle_context.specs.declared.error.DemangleError.TheVariants as printing
use Rattle.demangler.specs.Answer.{answer_of, read_fault, print_fault, is_of_tree}
use Rattle.demangle_read.specs.Reading.{reading as name_reading, whole}
use Rattle.demangle_read.specs.Found.{IsFound}
use Rattle.demangle_lines_print.specs.Telling.{Telling, telling, Stops, Tells, Meets}
use Rattle.demangler.specs.NameTold.{IsToldAnswer, KeepsFaults, Lengthens, Hears, HearsNothing, NameTold}
use Rattle.demangler.specs.NameTold.{is_of_telling, may_be_told}
use Rattle.demangler.proofs.Outcomes.{answers_unread, outcome_found, told_text, fault_as, of_tree}

-- ---- a name that isn't read
hears_nothing : (s : Seen) → HearsNothing s s
hears_nothing s = record { told = told_nothing s; faults = refl; refusals = refl }

module _ (limit : ℕ) (o : Options) (bytes : List ℕ) where
  pub unread_answers : (F : ℕ → Core) (v : View) (e : Error) (s : Seen) →
      IsFound F v (whole (name_reading limit bytes)) (Err e) →
      IsToldAnswer (answer_of (outcome limit o bytes)) s s (Err (read_fault e))
  unread_answers F v reading.OutOfMemory s d = tt
  unread_answers F v e s d = (answers_unread limit o bytes F v e d).0

  pub unread_told : (e : Error) (s : Seen) → NameTold s s limit o bytes (Err (read_fault e))
  unread_told reading.OutOfMemory s = inl (hears_nothing s)
  unread_told e s = hears_nothing s

  pub unread_faults : (e : Error) (s : Seen) → KeepsFaults s s (Err (read_fault e))
  unread_faults reading.OutOfMemory s = refl
  unread_faults e s = refl

  pub unread_caused : (F : ℕ → Core) (v : View) (e : Error) →
      IsFound F v (whole (name_reading limit bytes)) (Err e) →
      may_be_told (read_fault e) ≡ true
  unread_caused F v reading.OutOfMemory d = refl
  unread_caused F v e d = (answers_unread limit o bytes F v e d).1

pub unread_lengthens : (s : Seen) → Lengthens s.text s.text
unread_lengthens s = ([], (told_nothing s).text)

-- ---- a tree
-- no context could be made
pub tells_nothing : (seen : Seen) (limit : ℕ) (t : Telling) → Tells seen seen limit t (Err printing.OutOfMemory)
tells_nothing seen limit t =
    record {
      ends =
          record {
            breaks =
                record {
                  front = [];
                  others = t.0;
                  ended = 0;
                  stand_open = 0;
                  is = refl;
                  told = told_nothing seen;
                  are_open = refl;
                  no_more = omega arith;
                };
            rose = λ l. inr (told_nothing seen);
          };
      faults = λ n. refl;
      refusals = λ n. refl;
    }

stops_meets : {old new : Seen} {t : _} {e : DemangleError} → Stops old new t e → Meets t e
stops_meets d = record { fault = d.fault; is = d.is; met = d.met }

of_telling : (e : DemangleError) → is_of_tree e ≡ true → is_of_telling e ≡ true
of_telling printing.Sink h = refl
of_telling e h = h

module _ (limit : ℕ) (o : Options) (bytes : List ℕ) {x : Core} {table : Table} {end : ℕ}
    (found : whole (name_reading limit bytes) ≡ Found x (here (record { index = end; left = [] }) table))
    {old new : Seen} where
  hears : {r : _} → Tells old new o.limit (telling table bytes o x) r → Hears old new limit o bytes r
  hears d = record { tree = x; end = here (record { index = end; left = [] }) table; reads = found; tells = d }

  pub told_answers : (v : Unit {0}) → Tells old new o.limit (telling table bytes o x) (Ok v) →
      IsToldAnswer (answer_of (outcome limit o bytes)) old new (Ok v)
  told_answers v d = (
    text_of (telling table bytes o x).0,
    ap answer_of
        (outcome_found limit o bytes x table end found
        ∙ told_text (printed (with_table table bytes) o x) (text_of (telling table bytes o x).0) d.ends.no_fault refl),
    d.ends.told.text,
  )

  pub told_whole : (v : Unit {0}) → Tells old new o.limit (telling table bytes o x) (Ok v) →
      NameTold old new limit o bytes (Ok v)
  told_whole v d = hears d

  pub told_faults : (v : Unit {0}) → Tells old new o.limit (telling table bytes o x) (Ok v) →
      KeepsFaults old new (Ok v)
  told_faults v d = d.faults (λ q. cc)

  pub told_lengthens : (v : Unit {0}) → Tells old new o.limit (telling table bytes o x) (Ok v) →
      Lengthens old.text new.text
  told_lengthens v d = (text_of (telling table bytes o x).0, d.ends.told.text)

  -- ---- a fault of its printing
  pub stopped_answers : (e : DemangleError) → Tells old new o.limit (telling table bytes o x) (Err e) →
      IsToldAnswer (answer_of (outcome limit o bytes)) old new (Err (print_fault e))
  stopped_answers printing.OutOfMemory d = tt
  stopped_answers printing.Sink d = d.ends.rose
  stopped_answers e d = fault_as limit o bytes x table end found e (stops_meets d.ends)

  pub stopped_told : (e : DemangleError) → Tells old new o.limit (telling table bytes o x) (Err e) →
      NameTold old new limit o bytes (Err (print_fault e))
  stopped_told printing.OutOfMemory d = inr (hears d)
  stopped_told e d = hears d

  pub stopped_faults : (e : DemangleError) → Tells old new o.limit (telling table bytes o x) (Err e) →
      KeepsFaults old new (Err (print_fault e))
  stopped_faults printing.OutOfMemory d = d.faults (λ q. cc)
  stopped_faults printing.Sink d = tt
  stopped_faults e d = d.faults (λ q. cc)

  pub stopped_lengthens : (e : DemangleError) → Tells old new o.limit (telling table bytes o x) (Err e) →
      Lengthens old.text new.text
  stopped_lengthens printing.OutOfMemory d = (_, d.ends.breaks.told.text)
  stopped_lengthens printing.Sink d = (_, d.ends.breaks.told.text)
  stopped_lengthens e d = (_, d.ends.told.text)

  stop_caused : {e : DemangleError} → Stops old new (telling table bytes o x) e → is_of_telling e ≡ true
  stop_caused {e} d = of_telling e (subst (λ v. is_of_tree v ≡ true) d.is (of_tree d.fault))

  pub stopped_caused : (e : DemangleError) → Tells old new o.limit (telling table bytes o x) (Err e) →
      may_be_told (print_fault e) ≡ true
  stopped_caused printing.OutOfMemory d = refl
  stopped_caused printing.Sink d = refl
  stopped_caused e d = stop_caused d.ends
