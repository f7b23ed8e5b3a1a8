-- Laws on the scopes of names.
use Rattle.std.proofs.Common.{◌≡◌, ◌∙◌, ℕ, ◌+◌, ◌<◌, Bool, cond, not, List, [], ◌∷◌, ◌++◌, length, map, take}
use Rattle.std.proofs.Common.{get_or, Vec, None, refl, sym, ap, Err}
use Rattle.std.proofs.lemmas.List.{map_more}
use Rattle.std.specs.declared.alloc.Global.{Global}
use Rattle.demangle_core.specs.Core.{Core}
use Rattle.demangle_core.specs.Table.{Table}
use Rattle.demangle_text.specs.Kind.{Kind, kind}
use Rattle.demangle_text.specs.declared.error.Error.{Error}
use Rattle.demangle_text.specs.declared.error.Error.TheVariants as reading
use Rattle.demangle_grammar.specs.Code.{Here, Reply, Found, Refused}
use Rattle.demangle_printing.specs.Outcome.{Options, after_reading, outcome, outcome_of, printed, when_read}
use Rattle.demangle_printing.specs.State.{Answer, yes, no}
use Rattle.demangle_printing.specs.Trees.{with_table}
use Rattle.demangle_context.specs.declared.error.DemangleError.{DemangleError}
use Rattle.demangle_context.specs.declared.error.DemangleError.TheVariants as printing
use Rattle.demangle_groups.specs.Places.{is_refused, positions, positions_from}
use Rattle.demangler.specs.Contents.{Contents, contents}
use Rattle.demangler.specs.Name.{IsRead, IsRefused}
use Rattle.demangle_read.specs.Reading.{reading, whole, whole_at}
use Rattle.demangle_parts.specs.Answers.{IsDivided}
use Rattle.demangle_parts.specs.Entries.{entries, entry, entry_after, entry_of, entry_when_read, has_no_text, is_shown}
use Rattle.demangle_parts.specs.Parts.{Divided, Into, Not, divided, divided_by, for_parts, signature_of}
use Rattle.demangle_parts.specs.declared.signature.Signature.{Signature}

-- ---- a name
pub entry-read : (o : Options) (bytes : List ℕ) (s : Contents) → IsRead 96 bytes [] s
    → entry o bytes ≡ entry_of (divided o s)
entry-read o bytes s h =
    ap (λ r. entry_after bytes o r) h.reads
    ∙ ap (λ b. entry_of (divided o (contents b s.table s.tree))) (sym h.bytes_are)

-- a name that isn't read whole
entry-left : (o : Options) (bytes left : List ℕ) (x : Core) (h : Here) (k : Kind) → whole_at left x h ≡ Refused k
    → None ≡ entry_when_read bytes o left x h.table
entry-left o bytes [] x h k e = absurd cc
entry-left o bytes (b ∷ bs) x h k e = refl

entry-refused : (o : Options) (bytes : List ℕ) (r : Reply) (k : Kind) → whole r ≡ Refused k
    → None ≡ entry_after bytes o r
entry-refused o bytes (Found x h) k e = entry-left o bytes h.spot.left x h k e
entry-refused o bytes (Refused j) k e = refl

refusal : (r : Reply) (e : Error) → (e ≡ reading.OutOfMemory → ⊥) → IsRefused r e → r ≡ Refused (kind e)
refusal r reading.OutOfMemory never h = absurd (never refl)
refusal r e never h = h.0

pub entry-not-read : (o : Options) (bytes : List ℕ) (e : Error) → (e ≡ reading.OutOfMemory → ⊥)
    → IsRefused (whole (reading 96 bytes)) e → None ≡ entry o bytes
entry-not-read o bytes e never h =
    entry-refused o bytes (reading 96 bytes) (kind e) (refusal (whole (reading 96 bytes)) e never h)

-- a name whose tree isn't printed
pub entry-not-printed : (d : Divided) (e : DemangleError) → (e ≡ printing.OutOfMemory → ⊥) → IsDivided d (Err e)
    → None ≡ entry_of d
entry-not-printed (Not f) e never h = refl
entry-not-printed (Into p) printing.OutOfMemory never h = absurd (never refl)
entry-not-printed (Into p) printing.Sink never h = absurd h
entry-not-printed (Into p) e never h = absurd h

-- ---- the names without a text
not-shown : {X : Type 0} (s : Signature) (a : Answer X)
    → not (is_shown (outcome_of a)) ≡ is_refused (entry_of (divided_by s a))
not-shown s (yes es state) = refl
not-shown s (no es f) = refl

not-whole : (o : Options) (bytes left : List ℕ) (x : Core) (table : Table)
    → not (is_shown (when_read bytes (for_parts o) left x table)) ≡ is_refused (entry_when_read bytes o left x table)
not-whole o bytes [] x table =
    not-shown (signature_of table x) (printed (with_table table bytes) (for_parts o) x)
not-whole o bytes (b ∷ bs) x table = refl

not-after : (o : Options) (bytes : List ℕ) (r : Reply)
    → not (is_shown (after_reading bytes (for_parts o) r)) ≡ is_refused (entry_after bytes o r)
not-after o bytes (Found x h) = not-whole o bytes h.spot.left x h.table
not-after o bytes (Refused k) = refl

has-no-text : (o : Options) (v : Vec ℕ Global) → has_no_text o v ≡ is_refused (entry o v.items)
unfolding outcome
has-no-text o v = not-after o v.items (reading 96 v.items)

positions_from-map : {A B : Type 0} (f : A → B) (test : B → Bool) (same : A → Bool)
    → ((x : A) → same x ≡ test (f x)) → (n : ℕ) (xs : List A)
    → positions_from n test (map f xs) ≡ positions_from n same xs
positions_from-map f test same e n [] = refl
positions_from-map f test same e n (x ∷ xs) =
    let more = positions_from-map f test same e (n + 1) xs in
    ap (λ b. cond b (n ∷ positions_from (n + 1) test (map f xs)) (positions_from (n + 1) test (map f xs))) (sym (e x))
    ∙ ap (λ l. cond (same x) (n ∷ l) l) more

pub refused-names : (o : Options) (names : List (Vec ℕ Global))
    → positions is_refused (entries o names) ≡ positions (has_no_text o) names
refused-names o names =
    positions_from-map (λ (v : Vec ℕ Global). entry o v.items) is_refused (has_no_text o) (has-no-text o) 0 names

-- ---- one name more
pub entries-more : (o : Options) (names : List (Vec ℕ Global)) (i : ℕ) (v : Vec ℕ Global) → i < length names
    → v ≡ get_or names i v → entries o (take i names) ++ entry o v.items ∷ [] ≡ entries o (take (i + 1) names)
entries-more o names i v l e =
    ap (λ w. entries o (take i names) ++ entry o w.items ∷ []) e
    ∙ sym (map_more (λ (w : Vec ℕ Global). entry o w.items) names i v l)
