-- Laws on what the parts of a name are, by what its printing told.
use Rattle.std.proofs.Common.{◌≡◌, ◌∙◌, ℕ, Bool, true, false, List, [], ◌++◌, Some, None, refl, sym, ap, subst}
use Rattle.std.proofs.Common.{inl, inr, Option, Ok, Err, arith}
use Rattle.std.proofs.lemmas.List.{append-nil}
use Rattle.demangle_printing.specs.Laws.{AreClosed, told}
use Rattle.demangle_printing.specs.Outcome.{Options, printed, text_of}
use Rattle.demangle_printing.specs.State.{Answer, Event, Fault, yes, no}
use Rattle.demangle_printing.specs.Trees.{with_table}
use Rattle.demangle_meets.specs.Goes.{Rose}
use Rattle.demangle_meets.specs.Seen.{Call, Grows, HaveText, Seen, events_of}
use Rattle.demangle_context.specs.TroubleOf.{error_at}
use Rattle.demangle_context.specs.declared.error.DemangleError.{DemangleError}
use Rattle.demangle_context.specs.declared.error.DemangleError.TheVariants as printing
use Rattle.demangle_parts_text.specs.Divided.{IsCutOf, IsWhole, shown}
use Rattle.demangle_parts_text.specs.Items.{Items, items, text_in}
use Rattle.demangle_parts_text.specs.Laws.{JoinsCut, KeepsText, in_scope}
use Rattle.demangle_parts_text.specs.Split.{cut_if}
use Rattle.demangle_parts_text.specs.declared.divided.Divided as text
use Rattle.demangler.specs.Contents.{Contents, telling_of}
use Rattle.demangle_lines_print.specs.Telling.{Ends, Stops, Telling, Tells, TellsAll}
use Rattle.demangle_parts.specs.Answers.{IsDivided, JoinsTo}
use Rattle.demangle_parts.specs.Parts.{Divided, Into, Not, divided, divided_by, for_parts, parts_with, signature_of}
use Rattle.demangle_parts.specs.declared.signature.Signature.{Signature}

-- ---- what was told
-- all that a listener heard that had heard nothing
heard-all : (old new : Option (List Call)) (cs ys : List Call) → old ≡ Some [] → new ≡ Some ys → Grows old new cs
    → ys ≡ cs
heard-all None new cs ys e f g = absurd cc
heard-all (Some xs) None cs ys e f g = absurd cc
heard-all (Some xs) (Some zs) cs ys e f g =
    let same : ys ≡ zs = cc in
    let nothing : xs ≡ [] = cc in
    same ∙ g ∙ ap (λ l. l ++ cs) nothing

whole-heard : (new : Option (List Call)) (cs : List Call) → ((ys : List Call) → new ≡ Some ys → ys ≡ cs)
    → AreClosed (events_of cs) → HaveText cs → IsWhole new
whole-heard None cs all closed text = tt
whole-heard (Some ys) cs all closed text =
    let same : cs ≡ ys = sym (all ys refl) in
    let Whole : List Call → Type 0 = λ l. AreClosed (events_of l) × HaveText l in
    subst Whole same (closed, text)

pub whole-told : (old new : Seen) (t : Telling) → old.calls ≡ Some [] → TellsAll old new t → IsWhole new.calls
whole-told old new t e h =
    whole-heard new.calls h.told.calls (λ ys f. heard-all old.calls new.calls h.told.calls ys e f h.told.heard)
    (subst AreClosed (sym h.told.are) h.are_closed) h.told.have_text

cut-heard : (has : Bool) (new : Option (List Call)) (d : text.Divided) (es : List Event)
    → ((ys : List Call) → new ≡ Some ys → events_of ys ≡ es)
    → IsCutOf has new (Some d) → shown d ≡ cut_if has (items es)
cut-heard has None d es all h = absurd cc
cut-heard has (Some ys) d es all h = h ∙ ap (λ l. cut_if has (items l)) (all ys refl)

pub cut-told : (has : Bool) (old new : Seen) (t : Telling) (d : text.Divided) → old.calls ≡ Some []
    → TellsAll old new t → IsCutOf has new.calls (Some d) → shown d ≡ cut_if has (items t.0)
cut-told has old new t d e h cut =
    cut-heard has new.calls d t.0
    (λ ys f. ap events_of (heard-all old.calls new.calls h.told.calls ys e f h.told.heard) ∙ h.told.are) cut

-- ---- the parts
parts-yes : {X : Type 0} (s : Signature) (a : Answer X) → (told a).1 ≡ None
    → divided_by s a ≡ Into (parts_with s (told a).0)
parts-yes s (yes es state) e = refl
parts-yes s (no es f) e = absurd cc

parts-no : {X : Type 0} (s : Signature) (a : Answer X) (f : Fault) → (told a).1 ≡ Some f → divided_by s a ≡ Not f
parts-no s (yes es state) f e = absurd cc
parts-no s (no es g) f e = let same : g ≡ f = cc in ap (λ z. Not z) same

pub are-parts : (o : Options) (s : Contents) (d : text.Divided) (g : Signature) {old new : Seen} {limit : ℕ}
    {t : Telling} {v : Unit {0}} → Tells old new limit t (Ok v) → t ≡ telling_of (for_parts o) s
    → old.calls ≡ Some [] → g ≡ signature_of s.table s.tree → IsCutOf g.has_parts new.calls (Some d)
    → divided o s ≡ Into (record { kind = g.kind; cut = shown d; arity = g.arity })
are-parts o s d g {old} {new} {limit} {t} {v} h same e is cut =
    let a = printed (with_table s.table s.bytes) (for_parts o) s.tree in
    ap (λ z. divided_by z a) (sym is)
    ∙ parts-yes g a (sym (ap (λ z. z.1) same) ∙ h.ends.no_fault)
    ∙ ap (λ es. Into (parts_with g es)) (sym (ap (λ z. z.0) same))
    ∙ ap (λ c. Into (record { kind = g.kind; cut = c; arity = g.arity }))
    (sym (cut-told g.has_parts old new t d e h.ends cut))

joins-if : JoinsCut → (has : Bool) (i : Items)
    → in_scope (cut_if has i).scope (cut_if has i).base ++ (cut_if has i).after ≡ text_in i
joins-if joins true i = joins i
joins-if joins false i = append-nil (text_in i)

pub join-to : (o : Options) (s : Contents) (d : text.Divided) (has : Bool) {old new : Seen} {limit : ℕ} {t : Telling}
    {v : Unit {0}} → Tells old new limit t (Ok v) → t ≡ telling_of (for_parts o) s → old.calls ≡ Some []
    → IsCutOf has new.calls (Some d) → JoinsCut → KeepsText → JoinsTo (telling_of (for_parts o) s) (shown d)
join-to o s d has {old} {new} {limit} {t} {v} h same e cut joins keeps =
    ap (λ c. in_scope c.scope c.base ++ c.after) (cut-told has old new t d e h.ends cut)
    ∙ joins-if joins has (items t.0)
    ∙ keeps t.0 h.ends.are_closed
    ∙ ap (λ z. text_of z.0) same

-- ---- the refusals
stops : (d : Divided) (e : DemangleError) (f : Fault) → d ≡ Not f → error_at f ≡ e
    → (e ≡ printing.Sink → ⊥) → (e ≡ printing.OutOfMemory → ⊥) → IsDivided d (Err e)
stops (Into p) e f is at s m = absurd cc
stops (Not g) (printing.Reference x) f is at s m = let same : g ≡ f = cc in ap error_at same ∙ at
stops (Not g) printing.TooMuchRecursion f is at s m = let same : g ≡ f = cc in ap error_at same ∙ at
stops (Not g) printing.NotUtf8 f is at s m = let same : g ≡ f = cc in ap error_at same ∙ at
stops (Not g) printing.TooLong f is at s m = let same : g ≡ f = cc in ap error_at same ∙ at
stops (Not g) printing.Sink f is at s m = absurd (s refl)
stops (Not g) printing.OutOfMemory f is at s m = absurd (m refl)

stopped : (o : Options) (s : Contents) (old new : Seen) (e : DemangleError)
    → Stops old new (telling_of (for_parts o) s) e → (e ≡ printing.Sink → ⊥) → (e ≡ printing.OutOfMemory → ⊥)
    → IsDivided (divided o s) (Err e)
stopped o s old new e h n m =
    stops (divided o s) e h.fault
    (parts-no (signature_of s.table s.tree) (printed (with_table s.table s.bytes) (for_parts o) s.tree) h.fault h.met)
    h.is n m

-- a count that stays 0 never rose
never-rose : (a b : ℕ) → a ≡ 0 → b ≡ 0 → Rose a b → ⊥
never-rose a b p q (inl l) = omega arith
never-rose a b p q (inr e) = omega arith

refused-as : (o : Options) (s : Contents) (old new : Seen) (limit : ℕ) (e : DemangleError) → old.faults ≡ 0
    → new.faults ≡ 0 → Ends old new limit (telling_of (for_parts o) s) (Err e) → IsDivided (divided o s) (Err e)
refused-as o s old new limit (printing.Reference x) p q h =
    stopped o s old new (printing.Reference x) h (λ z. cc) (λ z. cc)
refused-as o s old new limit printing.TooMuchRecursion p q h =
    stopped o s old new printing.TooMuchRecursion h (λ z. cc) (λ z. cc)
refused-as o s old new limit printing.NotUtf8 p q h =
    stopped o s old new printing.NotUtf8 h (λ z. cc) (λ z. cc)
refused-as o s old new limit printing.TooLong p q h =
    stopped o s old new printing.TooLong h (λ z. cc) (λ z. cc)
refused-as o s old new limit printing.Sink p q h = absurd (never-rose old.faults new.faults p q h.rose)
refused-as o s old new limit printing.OutOfMemory p q h = tt

pub refused-by : (o : Options) (s : Contents) (e : DemangleError) {old new : Seen} {limit : ℕ} {t : Telling}
    → Tells old new limit t (Err e) → t ≡ telling_of (for_parts o) s → old.faults ≡ 0 → new.faults ≡ 0
    → IsDivided (divided o s) (Err e)
refused-by o s e {old} {new} {limit} {t} h same p q =
    let E : Telling → Type 0 = λ z. Ends old new limit z (Err e) in
    refused-as o s old new limit e p q (subst E same h.ends)
