-- What the printing of a symbol's tree tells: that sharing doesn't show, and what is declared of plain types.
use Rattle.std.specs.Prelude.{◌≡◌, ℕ, true, false, cond, nat_eq, List, [], ◌∷◌, Result, Ok}
use Rattle.std.specs.Prelude.{Err, IfErr, String, string_bytes}
use Rattle.std.specs.Coded.{Coded, Coded-set, code_by, coded_ℕ, coded_list, coded_option, coded×}
use Rattle.std.specs.declared.alloc.Global.{Global}
use Rattle.std.proofs.Common.{refl, sym, subst, ap, true≢false}
use Rattle.std.proofs.Math.Logic.{∥∥₁_elim}
use mathlib.Core.Bool.{Bool-set}
use Rattle.demangle_core.specs.Core.{Core, Tag}
use Rattle.demangle_grammar.specs.Sound.{IsSoundFor}
use Rattle.demangle_printing.specs.State.{Kind, Event, byte, opened, closed, Fault, Answer}
use Rattle.demangle_printing.specs.State.{BadTemplateArgReference, ForwardTemplateArgReference, BadLeafNameReference}
use Rattle.demangle_printing.specs.State.{TooMuchRecursion, NotUtf8, TooLong}
use Rattle.demangle_printing.specs.State as kind
use Rattle.demangle_printing.specs.Trees.{with_table}
use Rattle.demangle_printing.specs.Outcome.{Options, printed, outcome_of}
use Rattle.demangle_printing.specs.Laws.{told, holds_param}
use Rattle.demangle_printing.specs.Declarators.{Plain, declared, IsDeclaredOrLimited}
use Rattle.demangle_printing.specs.Declarators as declarators
use Rattle.demangle_printing.proofs.Shared.{sharing_is_invisible}
use Rattle.demangle_printing.proofs.Declared.{shows_declared}
use Rattle.demangle_meets.specs.Seen.{Seen}
use Rattle.demangle_context.specs.TroubleOf.{error_at}
use Rattle.demangle_context.specs.declared.error.DemangleError.{DemangleError}
use Rattle.demangle_context.specs.declared.error.DemangleError.TheVariants as printing
use Rattle.demangler.specs.Answer.{may_come, print_fault, is_of_tree}
use Rattle.demangle_lines_print.specs.Telling.{Telling, Tells, Meets, IsText}
use Rattle.demangler.specs.Contents.{Contents, expanded, telling_of, telling_unshared}
use Rattle.demangler.specs.Name.{IsSymbol}
use Rattle.demangler.specs.Plain.{IsPlain, is_limit, Declares}
use Rattle.demangler.proofs.Outcomes.{told_text, told_fault, of_tree}
use Rattle.demangler.proofs.Plains.{parts_placed, types}

-- ---- a telling is data, so that an equation between two has one proof
kind_number : Kind → ℕ
kind_number kind.prefix = 0
kind_number kind.template_prefix = 1
kind_number kind.template_args = 2
kind_number kind.unqualified_name = 3
kind_number kind.template_param = 4
kind_number kind.decltype = 5
kind_number kind.data_member_prefix = 6
kind_number kind.nested_name = 7
kind_number kind.virtual_table = 8

kind_at : ℕ → Kind
kind_at n =
    cond (nat_eq n 0) kind.prefix
    (cond (nat_eq n 1) kind.template_prefix
    (cond (nat_eq n 2) kind.template_args
    (cond (nat_eq n 3) kind.unqualified_name
    (cond (nat_eq n 4) kind.template_param
    (cond (nat_eq n 5) kind.decltype
    (cond (nat_eq n 6) kind.data_member_prefix
    (cond (nat_eq n 7) kind.nested_name kind.virtual_table)))))))

kind_back : (k : Kind) → kind_at (kind_number k) ≡ k
unfolding kind_number kind_at
kind_back kind.prefix = refl
kind_back _ = refl

event_number : Event → ℕ × ℕ
event_number (byte b) = (0, b)
event_number (opened k) = (1, kind_number k)
event_number closed = (2, 0)

event_at : ℕ × ℕ → Event
event_at n = cond (nat_eq n.0 0) (byte n.1) (cond (nat_eq n.0 1) (opened (kind_at n.1)) closed)

event_back : (e : Event) → event_at (event_number e) ≡ e
unfolding event_number event_at
event_back (byte b) = refl
event_back (opened k) = ap opened (kind_back k)
event_back closed = refl

fault_number : Fault → ℕ
fault_number BadTemplateArgReference = 0
fault_number ForwardTemplateArgReference = 1
fault_number BadLeafNameReference = 2
fault_number TooMuchRecursion = 3
fault_number NotUtf8 = 4
fault_number TooLong = 5

fault_at : ℕ → Fault
fault_at n =
    cond (nat_eq n 0) BadTemplateArgReference
    (cond (nat_eq n 1) ForwardTemplateArgReference
    (cond (nat_eq n 2) BadLeafNameReference
    (cond (nat_eq n 3) TooMuchRecursion
    (cond (nat_eq n 4) NotUtf8 TooLong))))

fault_back : (f : Fault) → fault_at (fault_number f) ≡ f
unfolding fault_number fault_at
fault_back TooMuchRecursion = refl
fault_back _ = refl

telling_code : Coded Telling
telling_code =
    coded× (coded_list (code_by (ℕ × ℕ) (coded× coded_ℕ coded_ℕ) event_number event_at event_back))
    (coded_option (code_by ℕ coded_ℕ fault_number fault_at fault_back))

-- what follows from a fact follows where there is a proof of it
pub same_telling : {A : Type 0} {t u : Telling} → ∥ A ∥₁ → (A → t ≡ u) → t ≡ u
same_telling {A} {t} {u} a f = ∥∥₁_elim a (Coded-set telling_code t u) f

-- ---- causes
error_caused : (t : Telling) (e : DemangleError) → IsText t (Err e) → may_come (print_fault e) ≡ true
error_caused t printing.OutOfMemory d = refl
error_caused t e d = subst (λ v. is_of_tree v ≡ true) d.is (of_tree d.fault)

pub text_caused : (t : Telling) (r : Result (String Global) DemangleError) → IsText t r →
    IfErr r (λ e. may_come (print_fault e) ≡ true)
text_caused t (Ok text) d = tt
text_caused t (Err e) d = error_caused t e d

-- ---- sharing
shared_alike : (s : Contents) (o : Options) → ∥ IsSymbol s ∥₁ → holds_param (expanded s) ≡ false →
    telling_of o s ≡ telling_unshared o s
shared_alike s o is p = same_telling is (λ x. sharing_is_invisible s.table s.bytes s.tree o x.sound p)

pub text_shared : (s : Contents) (o : Options) (r : Result (String Global) DemangleError) → ∥ IsSymbol s ∥₁ →
    IsText (telling_of o s) r → holds_param (expanded s) ≡ false → IsText (telling_unshared o s) r
text_shared s o r is d p = subst (λ t. IsText t r) (shared_alike s o is p) d

pub tells_shared : (s : Contents) (o : Options) {old new : Seen} {limit : ℕ} {r : Result (Unit {0}) DemangleError} →
    ∥ IsSymbol s ∥₁ → Tells old new limit (telling_of o s) r → holds_param (expanded s) ≡ false →
    Tells old new limit (telling_unshared o s) r
tells_shared s o {old} {new} {limit} {r} is d p = subst (λ t. Tells old new limit t r) (shared_alike s o is p) d

-- ---- plain types
pub shows : (o : Options) (s : Contents) (p : Plain) → IsSoundFor s.bytes s.table s.tree → IsPlain s p →
    IsDeclaredOrLimited (declared p) (outcome_of (printed (with_table s.table s.bytes) o s.tree))
shows o s p sound i =
    let h = parts_placed s.table s.bytes sound.entries.places Tag.Several Tag.MangledNameTopLevelType s.tree
    (i.handle ∷ []) sound.places i.is_type in
    shows_declared (with_table s.table s.bytes) o s.tree i.handle p i.is_type i.is
    (types s.table s.bytes sound.entries.places Tag.MangledNameTopLevelType i.handle p h.0 i.is i.plain)

pub limit_error : (f : Fault) → declarators.is_limit f ≡ true → is_limit (error_at f) ≡ true
limit_error BadTemplateArgReference e = absurd (true≢false (sym e))
limit_error ForwardTemplateArgReference e = absurd (true≢false (sym e))
limit_error BadLeafNameReference e = absurd (true≢false (sym e))
limit_error NotUtf8 e = absurd (true≢false (sym e))
limit_error TooMuchRecursion e = refl
limit_error TooLong e = refl

fault_declares : (x : Answer Core) (text : List ℕ) (e : DemangleError) → IsDeclaredOrLimited text (outcome_of x) →
    Meets (told x) e → is_limit e ≡ true
fault_declares x text e d m =
    subst (λ v. is_limit v ≡ true) m.is
    (limit_error m.fault (subst (IsDeclaredOrLimited text) (told_fault x m.fault m.met) d))

error_declares : (x : Answer Core) (text : List ℕ) (e : DemangleError) → IsDeclaredOrLimited text (outcome_of x) →
    IsText (told x) (Err e) → is_limit e ≡ true
error_declares x text printing.OutOfMemory d t = refl
error_declares x text e d t = fault_declares x text e d t

pub text_declares : (s : Contents) (o : Options) (r : Result (String Global) DemangleError) → ∥ IsSymbol s ∥₁ →
    IsText (telling_of o s) r → (p : Plain) → IsPlain s p → Declares (declared p) r
text_declares s o (Ok shown) is t p i =
    ∥∥₁_elim is (Coded-set (coded_list coded_ℕ) (string_bytes shown) (declared p))
    (λ x. subst (IsDeclaredOrLimited (declared p))
    (told_text (printed (with_table s.table s.bytes) o s.tree) (string_bytes shown) t.0 t.1) (shows o s p x.sound i))
text_declares s o (Err e) is t p i =
    ∥∥₁_elim is (Bool-set (is_limit e) true)
    (λ x. error_declares (printed (with_table s.table s.bytes) o s.tree) (declared p) e (shows o s p x.sound i) t)
