-- The row of special names in parts.
use Rattle.std.specs.Prelude.{ℕ, zero, suc, Bool, nat_le, List, [], ◌∷◌, length, codes, if◌then◌else◌, Result}
use Rattle.demangle_core.specs.Core.{Tag}
use Rattle.demangle_text.specs.Kind.{Kind, Unread, End, Text}
use Rattle.demangle_text.specs.Kind as kind
use Rattle.demangle_text.specs.Spot.{Spot}
use Rattle.demangle_text.specs.Word.{word_at}
use Rattle.demangle_grammar.specs.Rule.{Class, Row, Eat, Make, Given}
use Rattle.demangle_grammar.specs.Items.{◌·◌, ◌//◌, r, w, t, eat, num10, give, apart, sized, vec, made, commit}
use Rattle.demangle_grammar.specs.Reading.{any_starts}
use Rattle.demangle_grammar.specs.Code.{at, Go, Here, Reply, Refused, close, cread}
use Rattle.demangle_grammar.specs.Parts.{alone, first_word, else_spot, else_word}

-- ---- what is made for a type
abbrev pub table_words : List (List ℕ × Tag)
table_words =
    (codes "TV", Tag.SpecialNameVirtualTable) ∷ (codes "TT", Tag.SpecialNameVtt)
    ∷ (codes "TI", Tag.SpecialNameTypeinfo) ∷ (codes "TS", Tag.SpecialNameTypeinfoName)
    ∷ (codes "TF", Tag.SpecialNameTypeinfoFunction) ∷ []

-- which of the words stands at the front, as the tag of the node
unfoldable pub table_word_at : Spot → Result (Tag × Spot) Kind
table_word_at p = first_word table_words p

-- the type behind it
abbrev pub table_from : Go → Bool → Here → Tag → Spot → Reply
table_from go c s x p = close (alone (t · made x) go c (at s p))

-- ---- what is made for a name
abbrev pub name_words : List (List ℕ × Tag)
name_words =
    (codes "TH", Tag.SpecialNameTlsInit) ∷ (codes "TW", Tag.SpecialNameTlsWrapper)
    ∷ (codes "GV", Tag.SpecialNameGuard) ∷ []

unfoldable pub name_word_at : Spot → Result (Tag × Spot) Kind
name_word_at p = first_word name_words p

abbrev pub name_from : Go → Bool → Here → Tag → Spot → Reply
name_from go c s x p = close (alone (r Row.name · made x) go c (at s p))

-- ---- each behind its word, but for a thunk, which begins with it
unfoldable pub covariant_thunk_at : Go → Bool → Here → Reply
covariant_thunk_at go c s =
    close (alone (r Row.call_offset · r Row.call_offset · r Row.encoding
    · made Tag.SpecialNameVirtualOverrideThunkCovariant) go c s)

unfoldable pub thunk_at : Go → Bool → Here → Reply
thunk_at go c s =
    close (alone (w "T" · r Row.call_offset · r Row.encoding · made Tag.SpecialNameVirtualOverrideThunk) go c s)

unfoldable pub construction_vtable_at : Go → Bool → Here → Reply
construction_vtable_at go c s =
    close (alone (t · num10 · w "_" · t · made Tag.SpecialNameConstructionVtable) go c s)

unfoldable pub guard_temporary_at : Go → Bool → Here → Reply
guard_temporary_at go c s =
    close (alone (r Row.name · (w "_" · give Given.nought // apart Make.index (r Row.seq_id) · w "_")
    · made Tag.SpecialNameGuardTemporary) go c s)

unfoldable pub java_resource_at : Go → Bool → Here → Reply
java_resource_at go c s =
    close (alone (sized (w "_" · vec (r Row.resource_name)) · made Tag.SpecialNameJavaResource) go c s)

unfoldable pub transaction_clone_at : Go → Bool → Here → Reply
transaction_clone_at go c s =
    close (alone (w "n" · commit · r Row.encoding · made Tag.SpecialNameNonTransactionClone
    // eat (Eat.byte Class.any) · r Row.encoding · made Tag.SpecialNameTransactionClone) go c s)

-- ---- the alternatives, from the last ones on
unfoldable pub compiler_additions_at : Go → Bool → Here → Reply
compiler_additions_at go c s =
    else_spot (word_at (codes "GR") s.spot) (λ p. guard_temporary_at go c (at s p)) (λ u.
    else_spot (word_at (codes "Gr") s.spot) (λ p. java_resource_at go c (at s p)) (λ u.
    else_spot (word_at (codes "GT") s.spot) (λ p. transaction_clone_at go c (at s p)) (λ u. Refused (Unread Text))))

unfoldable pub of_names_at : Go → Bool → Here → Reply
of_names_at go c s =
    else_word (name_word_at s.spot) (λ x p. name_from go c s x p) (λ u. compiler_additions_at go c s)

unfoldable pub thunks_at : Go → Bool → Here → Reply
thunks_at go c s =
    else_spot (word_at (codes "Tc") s.spot) (λ p. covariant_thunk_at go c (at s p)) (λ u.
    if any_starts (codes "Th" ∷ codes "Tv" ∷ []) s.spot.left then thunk_at go c s else
    else_spot (word_at (codes "TC") s.spot) (λ p. construction_vtable_at go c (at s p)) (λ u. of_names_at go c s))

abbrev pub special_name_at : Go → Bool → Here → Reply
special_name_at go c s =
    else_word (table_word_at s.spot) (λ x p. table_from go c s x p) (λ u. thunks_at go c s)

unfoldable pub special_name_row : ℕ → Bool → Here → Reply
special_name_row zero c s = Refused kind.Deep
special_name_row (suc f) c s =
    if nat_le 2 (length s.spot.left) then special_name_at (cread f) c s else Refused (Unread End)
