-- The row of special names is its parts.
use Rattle.std.specs.Prelude.{codes, nat_le, length}
use Rattle.std.proofs.Common.{◌≡◌, refl, ℕ, zero, suc, Bool, false, [], ◌∷◌}
use Rattle.demangle_text.specs.Kind.{Unread, Text}
use Rattle.demangle_text.specs.Word.{word_at}
use Rattle.demangle_core.specs.Core.{Tag}
use Rattle.demangle_grammar.specs.Rule.{Class, Row, Eat, Cond, Make, Given}
use Rattle.demangle_grammar.specs.Items.{Item, ◌·◌, ◌//◌, r, w, t, eat, need, num10, give, apart, sized, vec, made}
use Rattle.demangle_grammar.specs.Items.{commit}
use Rattle.demangle_grammar.specs.Reading.{any_starts}
use Rattle.demangle_grammar.specs.Rows.{rule, guards, tables}
use Rattle.demangle_grammar.specs.Code.{at, Go, Here, Out, No, close, or_else, cread}
use Rattle.demangle_grammar.specs.Parts.{alone}
use Rattle.demangle_forms.specs.SpecialForms.{table_words, table_word_at, table_from, name_words, name_word_at}
use Rattle.demangle_forms.specs.SpecialForms.{name_from}
use Rattle.demangle_forms.specs.SpecialForms.{covariant_thunk_at, thunk_at, construction_vtable_at, guard_temporary_at}
use Rattle.demangle_forms.specs.SpecialForms.{java_resource_at, transaction_clone_at, compiler_additions_at}
use Rattle.demangle_forms.specs.SpecialForms.{of_names_at, thunks_at, special_name_at, special_name_row}
use Rattle.demangle_forms.proofs.WordLaws.{spot_then, spot_in, test_in, words_in, enough_left}

-- ---- the alternatives behind their words
abbrev covariant : Item
covariant k =
    (r Row.call_offset · r Row.call_offset · r Row.encoding · made Tag.SpecialNameVirtualOverrideThunkCovariant) k

abbrev thunk : Item
thunk k = (w "T" · r Row.call_offset · r Row.encoding · made Tag.SpecialNameVirtualOverrideThunk) k

abbrev construction : Item
construction k = (t · num10 · w "_" · t · made Tag.SpecialNameConstructionVtable) k

abbrev temporary : Item
temporary k =
    (r Row.name · (w "_" · give Given.nought // apart Make.index (r Row.seq_id) · w "_")
    · made Tag.SpecialNameGuardTemporary) k

abbrev resource : Item
resource k = (sized (w "_" · vec (r Row.resource_name)) · made Tag.SpecialNameJavaResource) k

abbrev transaction : Item
transaction k =
    (w "n" · commit · r Row.encoding · made Tag.SpecialNameNonTransactionClone
    // eat (Eat.byte Class.any) · r Row.encoding · made Tag.SpecialNameTransactionClone) k

-- ---- the alternatives from their words on
abbrev from_resource : Item
from_resource k = (w "Gr" · commit · resource // w "GT" · commit · transaction) k

abbrev from_temporary : Item
from_temporary k = (w "GR" · commit · temporary // from_resource) k

abbrev from_construction : Item
from_construction k = (w "TC" · commit · construction) k

abbrev from_thunk : Item
from_thunk k = (need (Cond.ahead (codes "Th" ∷ codes "Tv" ∷ [])) · commit · thunk // from_construction) k

abbrev from_covariant : Item
from_covariant k = (w "Tc" · commit · covariant // from_thunk) k

-- where none of the alternatives is read
abbrev none : Out
none = No false (Unread Text)

module _ (go : Go) (c : Bool) (s : Here) where
  additions_are : close (or_else (alone from_temporary go c s) (λ u. none)) ≡ compiler_additions_at go c s
  unfolding compiler_additions_at guard_temporary_at java_resource_at transaction_clone_at
  additions_are =
      spot_in (word_at (codes "GR") s.spot) (λ p. alone temporary go c (at s p))
      (alone from_resource go c s) (λ u. none)
      (λ p. guard_temporary_at go c (at s p)) _ (λ p. refl)
      (spot_in (word_at (codes "Gr") s.spot) (λ p. alone resource go c (at s p))
      (alone (w "GT" · commit · transaction) go c s) (λ u. none) (λ p. java_resource_at go c (at s p)) _ (λ p. refl)
      (spot_then (word_at (codes "GT") s.spot) (λ p. alone transaction go c (at s p)) (λ u. none)
      (λ p. transaction_clone_at go c (at s p)) _ (λ p. refl) refl))

  names_are : close (or_else (alone guards go c s) (λ u. none)) ≡ of_names_at go c s
  unfolding of_names_at name_word_at
  names_are =
      words_in (λ x p. alone (r Row.name · made x) go c (at s p)) name_words s.spot (alone from_temporary go c s)
      (λ u. none) (λ x p. name_from go c s x p) (compiler_additions_at go c s) (λ x p. refl) additions_are

  abbrev behind_tables : Unit {0} → Out
  behind_tables u = or_else (alone guards go c s) (λ u. none)

  thunks_are : close (or_else (alone from_covariant go c s) behind_tables) ≡ thunks_at go c s
  unfolding thunks_at covariant_thunk_at thunk_at construction_vtable_at
  thunks_are =
      spot_in (word_at (codes "Tc") s.spot) (λ p. alone covariant go c (at s p))
      (alone from_thunk go c s) behind_tables
      (λ p. covariant_thunk_at go c (at s p)) _ (λ p. refl)
      (test_in (any_starts (codes "Th" ∷ codes "Tv" ∷ []) s.spot.left) (alone thunk go c s)
      (alone from_construction go c s) behind_tables (thunk_at go c s) _ refl
      (spot_then (word_at (codes "TC") s.spot) (λ p. alone construction go c (at s p)) behind_tables
      (λ p. construction_vtable_at go c (at s p)) (of_names_at go c s) (λ p. refl) names_are))

  tables_are : close (or_else (alone tables go c s) behind_tables) ≡ special_name_at go c s
  unfolding table_word_at
  tables_are =
      words_in (λ x p. alone (t · made x) go c (at s p)) table_words s.spot (alone from_covariant go c s) behind_tables
      (λ x p. table_from go c s x p) (thunks_at go c s) (λ x p. refl) thunks_are

pub special_name_row_is : (f : ℕ) (c : Bool) (s : Here)
    → cread f Row.special_name c s [] ≡ special_name_row f c s
unfolding cread rule special_name_row
special_name_row_is zero c s = refl
special_name_row_is (suc f) c s =
    enough_left (nat_le 2 (length s.spot.left))
    (or_else (alone tables (cread f) c s) (behind_tables (cread f) c s)) _ (tables_are (cread f) c s)
