-- Laws on the parts of a name under the options that C hands in.
use Rattle.std.proofs.Common.{◌≡◌, ◌∙◌, ℕ, true, false, List, [], ◌∷◌, ap, refl, subst, sym, Result, Ok, Err}
use Rattle.demangle_core.specs.Core.{Core}
use Rattle.demangle_core.specs.Table.{Table}
use Rattle.demangle_text.specs.Kind.{Kind, Unread, Deep, End, Text, Over}
use Rattle.demangle_text.specs.declared.error.Error.{Error}
use Rattle.demangle_text.specs.declared.error.Error.TheVariants as error
use Rattle.demangle_grammar.specs.Code.{Here, Reply, Found, Refused}
use Rattle.demangle_context.specs.TroubleOf.{error_at}
use Rattle.demangle_printing.specs.Laws.{told}
use Rattle.demangle_printing.specs.Outcome.{Options, Shown, outcome, outcome_of, printed, text_of}
use Rattle.demangle_printing.specs.Outcome as shown
use Rattle.demangle_printing.specs.State.{Answer, yes, no}
use Rattle.demangle_printing.specs.Trees.{with_table}
use Rattle.demangle_context.specs.declared.error.DemangleError.{DemangleError}
use Rattle.demangle_context.specs.declared.error.DemangleError.TheVariants as printing
use Rattle.demangler.specs.Answer.{answer_of, print_fault, read_error, read_fault}
use Rattle.demangler.specs.Contents.{Contents, contents, telling_of}
use Rattle.demangler.specs.Name.{IsRead, IsRefused}
use Rattle.demangle_read.specs.Reading.{reading, whole, whole_at}
use Rattle.demangler.specs.declared.fault.SymbolFault.{SymbolFault}
use Rattle.demangler.specs.declared.fault.SymbolFault.TheVariants as fault
use Rattle.demangle_parts.specs.Answers.{IsDivided, JoinsTo}
use Rattle.demangle_parts.specs.Parts.{Divided, Into, Not, Parts, divided, divided_by, for_parts, signature_of}
use Rattle.cpp_demangle_c.specs.Asked.{answer, print_options}
use Rattle.cpp_demangle_c.specs.Divided.{IsPartsAnswer, IsTextAnswer, after_reading, joined, parts_answer, parts_from}
use Rattle.cpp_demangle_c.specs.Divided.{when_read, without_result}
use Rattle.cpp_demangle_c.specs.declared.settings.Settings.{Settings}

-- of a name that is read whole
pub answer-read : (s : Settings) (name : List ℕ) (limit : ℕ) (o : Options) (c : Contents) → limit ≡ s.parse_limit
    → o ≡ print_options s → IsRead limit name [] c → parts_answer s name ≡ parts_from (divided o c)
answer-read s name limit o c l p h =
    ap (λ (n : ℕ). after_reading name (print_options s) (reading n name)) (sym l)
    ∙ ap (λ (q : Options). after_reading name q (reading limit name)) (sym p)
    ∙ ap (λ r. after_reading name o r) h.reads
    ∙ ap (λ (b : List ℕ). parts_from (divided o (contents b c.table c.tree))) (sym h.bytes_are)

of-print : (d : Divided) (e : DemangleError) → IsDivided d (Err e) → IsPartsAnswer (parts_from d) (Err (print_fault e))
of-print d printing.OutOfMemory h = tt
of-print d printing.Sink h = absurd h
of-print (Into p) (printing.Reference e) h = absurd h
of-print (Into p) printing.TooMuchRecursion h = absurd h
of-print (Into p) printing.NotUtf8 h = absurd h
of-print (Into p) printing.TooLong h = absurd h
of-print (Not f) (printing.Reference e) h = ap (λ (x : DemangleError). Err (fault.Print x)) h
of-print (Not f) printing.TooMuchRecursion h = ap (λ (x : DemangleError). Err (fault.Print x)) h
of-print (Not f) printing.NotUtf8 h = ap (λ (x : DemangleError). Err (fault.Print x)) h
of-print (Not f) printing.TooLong h = ap (λ (x : DemangleError). Err (fault.Print x)) h

-- of one whose tree isn't printed
pub answer-not-printed : (answer : Result Parts SymbolFault) (d : Divided) (e : DemangleError) (f : SymbolFault)
    → answer ≡ parts_from d → f ≡ print_fault e → IsDivided d (Err e) → IsPartsAnswer answer (Err f)
answer-not-printed answer d e f is g h =
    subst (λ (a : Result Parts SymbolFault). IsPartsAnswer a (Err f)) (sym is)
    (subst (λ (x : SymbolFault). IsPartsAnswer (parts_from d) (Err x)) (sym g) (of-print d e h))

-- ---- the text
shows : {X : Type 0} (table : Table) (x : Core) (a : Answer X) (p : Parts)
    → divided_by (signature_of table x) a ≡ Into p → outcome_of a ≡ Shown (text_of (told a).0)
shows table x (yes es state) p e = refl
shows table x (no es f) p e = absurd cc

outcome-read : (limit : ℕ) (o : Options) (name : List ℕ) (c : Contents) → IsRead limit name [] c
    → outcome limit o name ≡ outcome_of (printed (with_table c.table c.bytes) o c.tree)
unfolding outcome
outcome-read limit o name c h =
    ap (λ r. shown.after_reading name o r) h.reads
    ∙ ap (λ (b : List ℕ). outcome_of (printed (with_table c.table b) o c.tree)) (sym h.bytes_are)

-- The parts join to the text that the name has without a result type.
pub text-read : (s : Settings) (name : List ℕ) (limit : ℕ) (o : Options) (c : Contents) (p : Parts)
    → limit ≡ s.parse_limit → o ≡ print_options s → IsRead limit name [] c → divided o c ≡ Into p
    → JoinsTo (telling_of (for_parts o) c) p.cut → answer (without_result s) name ≡ Ok (joined p)
text-read s name limit o c p l q h is joins =
    ap (λ (n : ℕ). answer_of (outcome n (for_parts (print_options s)) name)) (sym l)
    ∙ ap (λ (r : Options). answer_of (outcome limit (for_parts r) name)) (sym q)
    ∙ ap answer_of (outcome-read limit (for_parts o) name c h)
    ∙ ap answer_of (shows c.table c.tree (printed (with_table c.table c.bytes) (for_parts o) c.tree) p is)
    ∙ ap (λ (t : List ℕ). Ok t) (sym joins)

-- ---- why there is none
printed-refused : {X : Type 0} (table : Table) (x : Core) (a : Answer X) (f : SymbolFault)
    → parts_from (divided_by (signature_of table x) a) ≡ Err f → answer_of (outcome_of a) ≡ Err f
printed-refused table x (yes es state) f e = absurd cc
printed-refused table x (no es g) f e =
    let same : fault.Print (error_at g) ≡ f = cc in ap (λ (y : SymbolFault). Err y) same

read-refused : (o : Options) (name left : List ℕ) (x : Core) (table : Table) (f : SymbolFault)
    → when_read name o left x table ≡ Err f → answer_of (shown.when_read name (for_parts o) left x table) ≡ Err f
read-refused o name [] x table f e =
    printed-refused table x (printed (with_table table name) (for_parts o) x) f e
read-refused o name (b ∷ bs) x table f e =
    let same : fault.Read (read_error (Unread Text)) ≡ f = cc in ap (λ (y : SymbolFault). Err y) same

after-refused : (o : Options) (name : List ℕ) (r : Reply) (f : SymbolFault) → after_reading name o r ≡ Err f
    → answer_of (shown.after_reading name (for_parts o) r) ≡ Err f
after-refused o name (Found x h) f e = read-refused o name h.spot.left x h.table f e
after-refused o name (Refused k) f e =
    let same : fault.Read (read_error k) ≡ f = cc in ap (λ (y : SymbolFault). Err y) same

answer-refused : (s : Settings) (name : List ℕ) (f : SymbolFault) → parts_answer s name ≡ Err f
    → answer (without_result s) name ≡ Err f
unfolding outcome
answer-refused s name f e = after-refused (print_options s) name (reading s.parse_limit name) f e

-- The text of a name without a result type is refused as its parts are.
pub text-refused : (s : Settings) (name : List ℕ) (f : SymbolFault) → IsPartsAnswer (parts_answer s name) (Err f)
    → IsTextAnswer (answer (without_result s) name) (Err f)
text-refused s name (fault.Read e) h = answer-refused s name (fault.Read e) h
text-refused s name (fault.Print e) h = answer-refused s name (fault.Print e) h
text-refused s name fault.OutOfMemory h = tt

-- ---- of a name that isn't read whole
left-refused : (o : Options) (name left : List ℕ) (x : Core) (h : Here) (k : Kind) → whole_at left x h ≡ Refused k
    → when_read name o left x h.table ≡ Err (fault.Read (read_error k))
left-refused o name [] x h k e = absurd cc
left-refused o name (b ∷ bs) x h k e =
    let same : Unread Text ≡ k = cc in ap (λ (j : Kind). Err (fault.Read (read_error j))) same

whole-refused : (o : Options) (name : List ℕ) (r : Reply) (k : Kind) → whole r ≡ Refused k
    → after_reading name o r ≡ Err (fault.Read (read_error k))
whole-refused o name (Found x h) k e = left-refused o name h.spot.left x h k e
whole-refused o name (Refused j) k e =
    let same : j ≡ k = cc in ap (λ (i : Kind). Err (fault.Read (read_error i))) same

not-read : (o : Options) (name : List ℕ) (r : Reply) (e : Error) → IsRefused (whole r) e
    → IsPartsAnswer (after_reading name o r) (Err (read_fault e))
not-read o name r error.UnexpectedEnd h = whole-refused o name r (Unread End) h.0
not-read o name r error.UnexpectedText h = whole-refused o name r (Unread Text) h.0
not-read o name r error.Overflow h = whole-refused o name r (Unread Over) h.0
not-read o name r error.TooMuchRecursion h = whole-refused o name r Deep h.0
not-read o name r error.OutOfMemory h = tt
not-read o name r error.BadBackReference h = let never : false ≡ true = h.1 in absurd cc
not-read o name r error.BadTemplateArgReference h = let never : false ≡ true = h.1 in absurd cc
not-read o name r error.ForwardTemplateArgReference h = let never : false ≡ true = h.1 in absurd cc
not-read o name r error.BadFunctionArgReference h = let never : false ≡ true = h.1 in absurd cc
not-read o name r error.BadLeafNameReference h = let never : false ≡ true = h.1 in absurd cc

pub text-not-read : (s : Settings) (name : List ℕ) (limit : ℕ) (e : Error) (f : SymbolFault) → limit ≡ s.parse_limit
    → f ≡ read_fault e → IsRefused (whole (reading limit name)) e
    → IsTextAnswer (answer (without_result s) name) (Err f)
text-not-read s name limit e f l g h =
    text-refused s name f
    (subst (λ (x : SymbolFault). IsPartsAnswer (parts_answer s name) (Err x)) (sym g)
    (subst (λ (n : ℕ). IsPartsAnswer (after_reading name (print_options s) (reading n name)) (Err (read_fault e))) l
    (not-read (print_options s) name (reading limit name) e h)))
