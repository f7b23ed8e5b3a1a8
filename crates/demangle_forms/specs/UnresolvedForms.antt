-- The rows of unresolved names in the parts that functions read (ABI section 5.1.6).
use Rattle.std.specs.Prelude.{ℕ, zero, suc, Bool, codes}
use Rattle.demangle_core.specs.Core.{Tag}
use Rattle.demangle_text.specs.Kind.{Kind}
use Rattle.demangle_text.specs.Kind as kind
use Rattle.demangle_text.specs.Word.{word_at}
use Rattle.demangle_grammar.specs.Rule.{Row, Given}
use Rattle.demangle_grammar.specs.Items.{Item, ◌·◌, ◌//◌, r, w, made, commit, give, vec1}
use Rattle.demangle_grammar.specs.Code.{at, Go, Here, Reply, Refused, Out, close, cread}
use Rattle.demangle_grammar.specs.Parts.{alone, else_row, else_spot}
use Rattle.demangle_forms.specs.WordForms.{behind_word}

-- scopes up to an `E`, and a name
abbrev pub scopes_and_name : Item
scopes_and_name k = (vec1 (r Row.unresolved_qualifier_level) · w "E" · r Row.base_unresolved_name) k

-- behind `gs`
unfoldable pub global_name_at : Go → Bool → Here → Out
global_name_at go c s =
    alone (r Row.base_unresolved_name · made Tag.UnresolvedNameGlobal
    // w "sr" · scopes_and_name · made Tag.UnresolvedNameGlobalNested2) go c s

-- behind `srN`
unfoldable pub type_scopes_at : Go → Bool → Here → Out
type_scopes_at go c s =
    alone (r Row.unresolved_type_handle · scopes_and_name · made Tag.UnresolvedNameNested1) go c s

-- behind `sr`, where no `N` stands: a name in a type, or in scopes
unfoldable pub type_name_at : Go → Bool → Here → Out
type_name_at go c s =
    alone (r Row.unresolved_type_handle · commit · give Given.empty · r Row.base_unresolved_name
    · made Tag.UnresolvedNameNested1) go c s

unfoldable pub scopes_name_at : Go → Bool → Here → Out
scopes_name_at go c s = alone (scopes_and_name · made Tag.UnresolvedNameNested2) go c s

-- behind `sr`
unfoldable pub scoped_name_at : Go → Bool → Here → Reply
scoped_name_at go c s =
    else_spot (word_at (codes "N") s.spot) (λ p. close (type_scopes_at go c (at s p))) (λ u.
    else_row (type_name_at go c s) (λ u. close (scopes_name_at go c s)))

unfoldable pub unresolved_name_at : Go → Bool → Here → Reply
unresolved_name_at go c s =
    else_spot (word_at (codes "gs") s.spot) (λ p. close (global_name_at go c (at s p))) (λ u.
    else_row (alone (r Row.base_unresolved_name · made Tag.UnresolvedNameName) go c s) (λ u.
    behind_word (word_at (codes "sr") s.spot) (λ p. scoped_name_at go c (at s p))))

unfoldable pub unresolved_name_row : ℕ → Bool → Here → Reply
unresolved_name_row zero c s = Refused kind.Deep
unresolved_name_row (suc f) c s = unresolved_name_at (cread f) c s
