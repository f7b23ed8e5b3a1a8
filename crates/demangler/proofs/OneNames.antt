-- What else follows from the outcome of a name: its tree, sharing, and plain types.
use Rattle.std.specs.Prelude.{◌≡◌, ℕ, true, List, [], Some, None, Result, Ok, Err, String, string_bytes, IfOk}
use Rattle.std.specs.declared.alloc.Global.{Global}
use Rattle.std.proofs.Common.{refl, sym, subst, ap, ◌∙◌}
use Rattle.demangle_core.specs.Core.{Core}
use Rattle.demangle_text.specs.Kind.{Kind}
use Rattle.demangle_grammar.specs.Code.{Reply, Found, Refused, Here}
use Rattle.demangle_grammar.specs.Expand.{expand}
use Rattle.demangle_grammar.specs.Sound.{IsSoundFor}
use Rattle.demangle_printing.specs.State.{Answer, yes, no}
use Rattle.demangle_printing.specs.Trees.{with_table, without_table}
use Rattle.demangle_printing.specs.Outcome.{Options, Outcome, Shown, NotRead, NotPrinted, printed, outcome_of}
use Rattle.demangle_printing.specs.Outcome.{when_read, after_reading, outcome, text_of}
use Rattle.demangle_printing.specs.Laws.{told}
use Rattle.demangle_printing.specs.Declarators.{declared, IsDeclaredOrLimited}
use Rattle.demangle_printing.proofs.Shared.{sharing_is_invisible}
use Rattle.demangle_context.specs.TroubleOf.{error_at}
use Rattle.demangler.specs.declared.fault.SymbolFault.{SymbolFault}
use Rattle.demangler.specs.declared.fault.SymbolFault.TheVariants as fault
use Rattle.demangler.specs.Answer.{answer_of, IsAnswer}
use Rattle.demangle_read.specs.Reading.{reading, whole}
use Rattle.demangle_lines_print.specs.Telling.{Telling}
use Rattle.demangler.specs.Contents.{contents}
use Rattle.demangler.specs.Name.{IsName}
use Rattle.demangler.specs.Plain.{is_limit}
use Rattle.demangler.specs.OneName.{HasText, SharesInvisibly, DeclaresText, DeclaresPlain}
use Rattle.demangler.proofs.Names.{is_name, is_sound}
use Rattle.demangler.proofs.Wholes.{unwhole}
use Rattle.demangler.proofs.Outcomes.{outcome_after, outcome_refused}
use Rattle.demangler.proofs.Tellings.{shows, limit_error}

-- ---- the whole reading
outcome_whole : (limit : ℕ) (o : Options) (bytes : List ℕ) (x : Core) (h : Here) →
    whole (reading limit bytes) ≡ Found x h →
    outcome limit o bytes ≡ outcome_of (printed (with_table h.table bytes) o x)
outcome_whole limit o bytes x h e =
    outcome_after limit o bytes ∙ ap (after_reading bytes o) e
    ∙ ap (λ l. when_read bytes o l x h.table) (unwhole (reading limit bytes) x h e).1

sound_whole : (limit : ℕ) (bytes : List ℕ) (x : Core) (h : Here) → whole (reading limit bytes) ≡ Found x h →
    IsSoundFor bytes h.table x
sound_whole limit bytes x h e = is_sound limit bytes x h (unwhole (reading limit bytes) x h e).0

name_whole : (limit : ℕ) (bytes : List ℕ) (x : Core) (h : Here) → whole (reading limit bytes) ≡ Found x h →
    IsName bytes [] x h.table
name_whole limit bytes x h e =
    let u = unwhole (reading limit bytes) x h e in
    subst (λ l. IsName bytes l x h.table) u.1 (is_name limit bytes x h u.0)

-- ---- sharing
outcome_by : Telling → Outcome
outcome_by (m, None) = Shown (text_of m)
outcome_by (m, Some f) = NotPrinted f

by_told : {X : Type 0} (x : Answer X) → outcome_of x ≡ outcome_by (told x)
unfolding outcome_by
by_told (yes m s) = refl
by_told (no m f) = refl

outcomes_alike : {X Y : Type 0} (x : Answer X) (y : Answer Y) → told x ≡ told y → outcome_of x ≡ outcome_of y
outcomes_alike x y e = by_told x ∙ ap outcome_by e ∙ sym (by_told y)

pub name_shared : (limit : ℕ) (o : Options) (bytes : List ℕ) (r : Result (String Global) SymbolFault) →
    IsAnswer (answer_of (outcome limit o bytes)) r → SharesInvisibly limit o bytes r
name_shared limit o bytes r d tree end e p =
    subst (λ v. IsAnswer (answer_of v) r)
    (outcome_whole limit o bytes tree end e
    ∙ outcomes_alike (printed (with_table end.table bytes) o tree)
    (printed without_table o (expand end.table bytes tree))
    (sharing_is_invisible end.table bytes tree o (sound_whole limit bytes tree end e) p))
    d

-- ---- plain types
answers_declared : (text : List ℕ) (v : Outcome) (r : Result (String Global) SymbolFault) →
    IsDeclaredOrLimited text v → IsAnswer (answer_of v) r → DeclaresText text r
answers_declared text (Shown shown) (Ok t) d a = (let e : shown ≡ string_bytes t = cc in sym e ∙ d)
answers_declared text (Shown shown) (Err (fault.Read e)) d a = absurd (cc)
answers_declared text (Shown shown) (Err (fault.Print e)) d a = absurd (cc)
answers_declared text (Shown shown) (Err fault.OutOfMemory) d a = tt
answers_declared text (NotRead k) r d a = absurd d
answers_declared text (NotPrinted f) (Ok t) d a = absurd (cc)
answers_declared text (NotPrinted f) (Err (fault.Read e)) d a = absurd (cc)
answers_declared text (NotPrinted f) (Err (fault.Print e)) d a =
    let is : error_at f ≡ e = cc in subst (λ v. is_limit v ≡ true) is (limit_error f d)
answers_declared text (NotPrinted f) (Err fault.OutOfMemory) d a = tt

pub name_declares : (limit : ℕ) (o : Options) (bytes : List ℕ) (r : Result (String Global) SymbolFault) →
    IsAnswer (answer_of (outcome limit o bytes)) r → DeclaresPlain limit bytes r
name_declares limit o bytes r d tree end p e i =
    answers_declared (declared p) (outcome_of (printed (with_table end.table bytes) o tree)) r
    (shows o (contents bytes end.table tree) p (sound_whole limit bytes tree end e) i)
    (subst (λ v. IsAnswer (answer_of v) r) (outcome_whole limit o bytes tree end e) d)

-- ---- the tree of a text
shown_so : (v : Outcome) (text : List ℕ) → answer_of v ≡ Ok text → v ≡ Shown text
shown_so (Shown t) text e = ap Shown (let h : t ≡ text = cc in h)
shown_so (NotRead k) text e = absurd (cc)
shown_so (NotPrinted f) text e = absurd (cc)

read_not_shown : {v : Outcome} {k : Kind} {t : List ℕ} → v ≡ NotRead k → v ≡ Shown t → ⊥
read_not_shown e f = cc

pub name_has_text : (limit : ℕ) (o : Options) (bytes text : List ℕ) → answer_of (outcome limit o bytes) ≡ Ok text →
    HasText limit o bytes text
name_has_text limit o bytes text a = by (whole (reading limit bytes)) refl
  where
    shown : outcome limit o bytes ≡ Shown text
    shown = shown_so (outcome limit o bytes) text a

    by : (r : Reply) → whole (reading limit bytes) ≡ r → HasText limit o bytes text
    by (Found x h) e =
        record {
          tree = x;
          end = h;
          reads = e;
          name = name_whole limit bytes x h e;
          sound = sound_whole limit bytes x h e;
          prints = sym (outcome_whole limit o bytes x h e) ∙ shown;
        }
    by (Refused k) e = absurd (read_not_shown (outcome_refused limit o bytes k e) shown)

pub name_named : (limit : ℕ) (o : Options) (bytes : List ℕ) (r : Result (String Global) SymbolFault) →
    IsAnswer (answer_of (outcome limit o bytes)) r → IfOk r (λ text. HasText limit o bytes (string_bytes text))
name_named limit o bytes (Ok text) d = name_has_text limit o bytes (string_bytes text) d
name_named limit o bytes (Err e) d = tt
