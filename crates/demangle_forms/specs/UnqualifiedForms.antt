-- The rows of constructors and destructors, of closures, and the alternatives of an unqualified name behind operators,
-- in parts.
use Rattle.std.specs.Prelude.{ℕ, zero, suc, Bool, nat_le, List, [], ◌∷◌, length, codes, if◌then◌else◌, Result}
use Rattle.demangle_core.specs.Core.{Core, Tag, node, end, ◌⊕◌}
use Rattle.demangle_text.specs.Kind.{Kind, Unread, End, Text}
use Rattle.demangle_text.specs.Kind as kind
use Rattle.demangle_text.specs.Spot.{Spot}
use Rattle.demangle_text.specs.Word.{word_at}
use Rattle.demangle_grammar.specs.Rule.{Row}
use Rattle.demangle_grammar.specs.Items.{Item, ◌·◌, ◌//◌, r, w, t, made, commit, present, absent, opt}
use Rattle.demangle_grammar.specs.Code.{at, Go, Here, Reply, Found, Refused, Out, Yes, close, from_row, read_spot}
use Rattle.demangle_grammar.specs.Code.{and_then, joined, read_leaf, some_at, cread}
use Rattle.demangle_grammar.specs.Parts.{alone, else_row, first_word, else_spot}
use Rattle.demangle_forms.specs.WordForms.{or_text, optional_unsigned_at}

-- ---- constructors and destructors
abbrev pub constructor_words : List (List ℕ × Tag)
constructor_words =
    (codes "1", Tag.CtorDtorNameCompleteConstructor) ∷ (codes "2", Tag.CtorDtorNameBaseConstructor)
    ∷ (codes "3", Tag.CtorDtorNameCompleteAllocatingConstructor)
    ∷ (codes "4", Tag.CtorDtorNameMaybeInChargeConstructor) ∷ []

-- which constructor it is, behind C or CI, as the tag of its node
unfoldable pub constructor_at : Spot → Result (Tag × Spot) Kind
constructor_at p = first_word constructor_words p

abbrev pub destructor_words : List (List ℕ × Tag)
destructor_words =
    (codes "D0", Tag.CtorDtorNameDeletingDestructor) ∷ (codes "D1", Tag.CtorDtorNameCompleteDestructor)
    ∷ (codes "D2", Tag.CtorDtorNameBaseDestructor) ∷ (codes "D4", Tag.CtorDtorNameMaybeInChargeDestructor) ∷ []

-- which destructor it is, as the tag of its node; whatever else stands there is other text
unfoldable pub destructor_at : Spot → Result (Tag × Spot) Kind
destructor_at p = or_text (first_word destructor_words p)

-- the constructor that is inherited from a type, behind CI
abbrev pub inherited_from : Go → Bool → Here → Tag → Spot → Out
inherited_from go c s x p = alone (present t · made x) go c (at s p)

unfoldable pub inherited_at : Go → Bool → Here → Reply
inherited_at go c s = close (read_leaf (constructor_at s.spot) (λ x p. inherited_from go c s x p))

-- a constructor behind C
abbrev pub constructor_from : Go → Bool → Here → Tag → Spot → Out
constructor_from go c s x p = alone (absent · made x) go c (at s p)

abbrev pub constructed_at : Go → Bool → Here → Reply
constructed_at go c s = close (read_leaf (constructor_at s.spot) (λ x p. constructor_from go c s x p))

abbrev pub destructor_from : Here → Tag → Spot → Out
destructor_from s x p = Yes (at s p) (node x end end ∷ [])

abbrev pub ctor_dtor_name_at : Go → Bool → Here → Reply
ctor_dtor_name_at go c s =
    else_spot (word_at (codes "CI") s.spot) (λ p. inherited_at go c (at s p)) (λ u.
    else_spot (word_at (codes "C") s.spot) (λ p. constructed_at go c (at s p)) (λ u.
    close (read_leaf (destructor_at s.spot) (λ x p. destructor_from s x p))))

unfoldable pub ctor_dtor_name_row : ℕ → Bool → Here → Reply
ctor_dtor_name_row zero c s = Refused kind.Deep
ctor_dtor_name_row (suc f) c s =
    if nat_le 1 (length s.spot.left) then ctor_dtor_name_at (cread f) c s else Refused (Unread End)

-- ---- closures: behind the signature, its E, a number that may be missing, and _
abbrev pub closure_end : Core → Here → Spot → Out
closure_end x m p =
    read_spot (word_at (codes "_") (optional_unsigned_at p).1)
    (λ q. Yes (at m q) (node Tag.ClosureTypeName (x ⊕ (optional_unsigned_at p).0) end ∷ []))

abbrev pub closure_behind : Core → Here → Out
closure_behind x m = read_spot (word_at (codes "E") m.spot) (λ p. closure_end x m p)

unfoldable pub closure_type_name_row : ℕ → Bool → Here → Reply
closure_type_name_row zero c s = Refused kind.Deep
closure_type_name_row (suc f) c s =
    close (read_spot (word_at (codes "Ul") s.spot)
    (λ p. from_row (cread f Row.lambda_sig c (at s p) []) (λ m x. closure_behind x m)))

-- ---- the signature of a closure: v for no types, or else one type at least
abbrev pub signature_at : Go → Bool → Here → Reply
signature_at go c s =
    else_spot (word_at (codes "v") s.spot)
    (λ p. Found (node Tag.LambdaSig (node Tag.Several end end) end) (at s p)) (λ u.
    close (and_then (some_at go c Row.type_handle Row.type_handle s)
    (λ m b. Yes m (node Tag.LambdaSig (joined b) end ∷ []))))

unfoldable pub lambda_sig_row : ℕ → Bool → Here → Reply
lambda_sig_row zero c s = Refused kind.Deep
lambda_sig_row (suc f) c s = signature_at (cread f) c s

-- ---- an unqualified name that is no operator's
abbrev pub ctor_dtor_alternative : Item
ctor_dtor_alternative k = (r Row.ctor_dtor_name · commit · r Row.abi_tags · made Tag.UnqualifiedNameCtorDtor) k

abbrev pub local_alternative : Item
local_alternative k =
    (w "L" · commit · r Row.source_name · opt (r Row.discriminator) · r Row.abi_tags
    · made Tag.UnqualifiedNameLocalSourceName) k

abbrev pub source_alternative : Item
source_alternative k = (r Row.source_name · commit · r Row.abi_tags · made Tag.UnqualifiedNameSource) k

-- of what has no name in the source: closures and unnamed types
unfoldable pub unnamed_at : Go → Bool → Here → Reply
unnamed_at go c s =
    close (alone (r Row.closure_type_name · commit · r Row.abi_tags · made Tag.UnqualifiedNameClosureType
    // r Row.unnamed_type_name · r Row.abi_tags · made Tag.UnqualifiedNameUnnamedType) go c s)

unfoldable pub unqualified_alternatives : Go → Bool → Here → Reply
unqualified_alternatives go c s =
    else_row (alone ctor_dtor_alternative go c s) (λ u. else_row (alone local_alternative go c s) (λ u.
    else_row (alone source_alternative go c s) (λ u. unnamed_at go c s)))
